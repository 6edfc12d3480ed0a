-- What is put stands at a place that is wanted, or at one of a key that is made; and at each place that is wanted something
-- is put.
use Rattle.std.proofs.Common.{◌≡◌, ◌≢◌, ℕ, eqb, Bool, true, false, cond, Option, None, Some, List, [], ◌∷◌, ◌++◌, refl, sym, ap, subst, ◌∙◌, ◌⊎◌, inl, inr}
use Rattle.std.specs.List.{slice_get, flat_map}
use Rattle.std.proofs.lemmas.Bool.{false≢true, eqb-true, eq-eqb}
use Rattle.std.proofs.lemmas.Option.{same_Some}
use Rattle.key_ids.specs.Uris.{Bases, anchor_uri, cert_uri, crl_uri, manifest_uri}
use Rattle.authority_book.specs.declared.rows.NameRow.{NameRow}
use Rattle.authority_book.specs.Settings.{Settings}
use Rattle.entitle.specs.declared.trees.Owed.{Owed}
use Rattle.entitle.specs.Certified.{names_of}
use Rattle.issue_values.specs.Publishers.{roa_uri}
use Rattle.key_roll.specs.declared.rows.KeyRow.{KeyRow}
use Rattle.key_roll.specs.declared.work.KeyName.{KeyName}
use Rattle.key_roll.specs.declared.work.KeyName.TheVariants.{Live, Fresh}
use Rattle.issue_keys.specs.Keys.{id_of}
use Rattle.issue_drafts.specs.Drafts.{Draft}
use Rattle.issue_drafts.specs.Drafts.Kind.{Crl, Manifest}
use Rattle.issue_plan.specs.declared.keys.NextKey.{NextKey}
use Rattle.issue_plan.specs.Keys.{next_keys}
use Rattle.issue_plan.specs.Wanted.{PlanInput, parent_of}
use Rattle.issue_plan.specs.Uris.{certificate_below, certificate_uris, point_uris, key_uris, roa_uris, owed_uris, wanted_uris}
use Rattle.items.specs.laws.AmongLaws.{In, in-front, in-behind, in-parts, in-filter-map}
use Rattle.editions.proofs.PlanLemmas.Pairs.{right-of}
use Rattle.editions.proofs.PlanLemmas.Beside.{IsBeside, IsNamed}
use Rattle.editions.proofs.PlanLemmas.Drafted.{AreKnown, cert_for, roa_for, crl_for, manifest_for, all_certs, all_roas, all_crls, all_manifests, all_puts, HasCert, HasPoint, HasRoa, cert-of-key, crl-of-key, manifest-of-key, roa-of-owed}

pub in-flat : {X Y : Type 0} (f : X → List Y) (x : X) (y : Y) (xs : List X) → In x xs → In y (f x) → In y (flat_map f xs)
in-flat f x y [] at there = absurd at
in-flat {X} {Y} f x y (z ∷ xs) (inl same) there = in-front y (f z) (flat_map f xs) (subst (λ (w : X). In y (f w)) (sym same) there)
in-flat f x y (z ∷ xs) (inr at) there = in-behind y (f z) (flat_map f xs) (in-flat f x y xs at there)

pub flat-in : {X Y : Type 0} (f : X → List Y) (y : Y) (xs : List X) → In y (flat_map f xs) → (x : X) × In x xs × In y (f x)
flat-in f y [] at = absurd at
flat-in {X} {Y} f y (z ∷ xs) at = by (flat-in f y xs) (in-parts y (f z) (flat_map f xs) at)
  where
    by : (In y (flat_map f xs) → (x : X) × In x xs × In y (f x)) → In y (f z) ⊎ In y (flat_map f xs)
        → (x : X) × In x (z ∷ xs) × In y (f x)
    by rest (inl here) = (z, inl refl, here)
    by rest (inr later) = let w = rest later in (w.0, inr w.1, w.2)

module _ (plan_input : PlanInput) (ks : List KeyRow) (known : AreKnown plan_input ks) where
  abbrev site : Bases
  site = plan_input.site

  abbrev configs : List Settings
  configs = plan_input.basis.configs

  abbrev names : List NameRow
  names = names_of plan_input.basis.configs

  abbrev nexts : List NextKey
  nexts = next_keys plan_input.basis

  abbrev Beside : NextKey → KeyRow → Type 0
  Beside = IsBeside plan_input.basis.rows

  abbrev wanted : List (List ℕ)
  wanted = wanted_uris site configs nexts plan_input.owed

  -- ---- what is wanted is put

  abbrev IsPut : List ℕ → Type 0
  IsPut uri = (d : Draft) × In d (all_puts plan_input ks) × (d.uri ≡ uri)

  cert-put : (k : KeyRow) → In k ks → (h : HasCert plan_input ks k) → IsPut h.draft.uri
  cert-put k at h = (
    h.draft,
    in-front h.draft ((all_certs plan_input ks ++ all_roas plan_input ks) ++ all_crls plan_input ks) (all_manifests plan_input ks)
        (in-front h.draft (all_certs plan_input ks ++ all_roas plan_input ks) (all_crls plan_input ks)
        (in-front h.draft (all_certs plan_input ks) (all_roas plan_input ks)
        (in-filter-map (cert_for plan_input ks) k h.draft ks h.is at))),
    refl,
  )

  crl-put : (k : KeyRow) → In k ks → (h : HasPoint plan_input (crl_for plan_input ks k) Crl (crl_uri site) k) → IsPut h.draft.uri
  crl-put k at h = (
    h.draft,
    in-front h.draft ((all_certs plan_input ks ++ all_roas plan_input ks) ++ all_crls plan_input ks) (all_manifests plan_input ks)
        (in-behind h.draft (all_certs plan_input ks ++ all_roas plan_input ks) (all_crls plan_input ks)
        (in-filter-map (crl_for plan_input ks) k h.draft ks h.is at)),
    refl,
  )

  manifest-put : (k : KeyRow) → In k ks → (h : HasPoint plan_input (manifest_for plan_input ks k) Manifest (manifest_uri site) k)
      → IsPut h.draft.uri
  manifest-put k at h = (
    h.draft,
    in-behind h.draft ((all_certs plan_input ks ++ all_roas plan_input ks) ++ all_crls plan_input ks) (all_manifests plan_input ks)
        (in-filter-map (manifest_for plan_input ks) k h.draft ks h.is at),
    refl,
  )

  roa-put : (o : Owed) → In o plan_input.owed → (h : HasRoa plan_input ks o) → IsPut h.draft.uri
  roa-put o at h = (
    h.draft,
    in-front h.draft ((all_certs plan_input ks ++ all_roas plan_input ks) ++ all_crls plan_input ks) (all_manifests plan_input ks)
        (in-front h.draft (all_certs plan_input ks ++ all_roas plan_input ks) (all_crls plan_input ks)
        (in-behind h.draft (all_certs plan_input ks) (all_roas plan_input ks)
        (in-filter-map (roa_for plan_input ks) o h.draft plan_input.owed h.is at))),
    refl,
  )

  wanted-cert : (next : NextKey) (k : KeyRow) → In k ks → Beside next k → (uri : List ℕ)
      → In uri (certificate_uris site configs next) → IsPut uri
  wanted-cert next k at beside uri there = by (eqb next.desk 0) refl there
    where
      h : HasCert plan_input ks k
      h = cert-of-key plan_input ks known k at

      below : next.desk ≢ 0 → (o : Option (List ℕ)) (name : KeyName) → parent_of (slice_get configs next.desk) ≡ o
          → IsNamed plan_input.basis.rows k name → In uri (certificate_below site o name) → IsPut uri
      below off None name e named here = absurd here
      below off (Some parent) (Fresh desk) e named here = absurd here
      below off (Some parent) (Live id) e named (inr nothing) = absurd nothing
      below off (Some parent) (Live id) e named (inl same) =
          let c = h.below (λ zero_desk. off (sym beside.desk ∙ zero_desk)) in
          let parents : Some c.0 ≡ Some parent = sym c.1 ∙ (ap (λ (d : ℕ). parent_of (slice_get configs d)) beside.desk ∙ e) in
          subst IsPut (c.3 ∙ (ap (λ (p : List ℕ). cert_uri site p (id_of k)) (same_Some c.0 parent parents)
          ∙ (ap (λ (l : List ℕ). cert_uri site parent l) (sym named) ∙ same))) (cert-put k at h)

      by : (b : Bool) → eqb next.desk 0 ≡ b
          → In uri (cond b (anchor_uri site ∷ []) (certificate_below site (parent_of (slice_get configs next.desk)) next.name))
          → IsPut uri
      by true e (inr nothing) = absurd nothing
      by true e (inl same) =
          subst IsPut (h.anchor (beside.desk ∙ eqb-true next.desk 0 e) ∙ same) (cert-put k at h)
      by false e here =
          below (λ zero_desk. false≢true (sym e ∙ eq-eqb next.desk 0 zero_desk)) (parent_of (slice_get configs next.desk)) next.name
          refl beside.named here

  wanted-point : (next : NextKey) (k : KeyRow) → In k ks → Beside next k → (uri : List ℕ)
      → In uri (point_uris site (slice_get names next.desk) next.name) → IsPut uri
  wanted-point next k at beside uri there = by (slice_get names next.desk) next.name refl beside.named there
    where
      c : HasPoint plan_input (crl_for plan_input ks k) Crl (crl_uri site) k
      c = crl-of-key plan_input ks known k at

      m : HasPoint plan_input (manifest_for plan_input ks k) Manifest (manifest_uri site) k
      m = manifest-of-key plan_input ks known k at

      by : (o : Option NameRow) (name : KeyName) → slice_get names next.desk ≡ o → IsNamed plan_input.basis.rows k name
          → In uri (point_uris site o name) → IsPut uri
      by None name e named here = absurd here
      by (Some row) (Fresh desk) e named here = absurd here
      by (Some row) (Live id) e named (inr (inr nothing)) = absurd nothing
      by (Some row) (Live id) e named (inl same) =
          let rows : c.name ≡ row = same_Some c.name row (sym c.called ∙ (ap (slice_get names) beside.desk ∙ e)) in
          subst IsPut (c.uri ∙ (ap (λ (r : NameRow). crl_uri site r.name (id_of k)) rows
          ∙ (ap (λ (l : List ℕ). crl_uri site row.name l) (sym named) ∙ same))) (crl-put k at c)
      by (Some row) (Live id) e named (inr (inl same)) =
          let rows : m.name ≡ row = same_Some m.name row (sym m.called ∙ (ap (slice_get names) beside.desk ∙ e)) in
          subst IsPut (m.uri ∙ (ap (λ (r : NameRow). manifest_uri site r.name (id_of k)) rows
          ∙ (ap (λ (l : List ℕ). manifest_uri site row.name l) (sym named) ∙ same))) (manifest-put k at m)

  wanted-roa : (o : Owed) → In o plan_input.owed → (uri : List ℕ) → In uri (owed_uris site configs o) → IsPut uri
  wanted-roa o at uri there = by (slice_get names o.desk) refl there
    where
      h : HasRoa plan_input ks o
      h = roa-of-owed plan_input ks known o at

      by : (n : Option NameRow) → slice_get names o.desk ≡ n → In uri (roa_uris site o.origin n) → IsPut uri
      by None e here = absurd here
      by (Some row) e (inr nothing) = absurd nothing
      by (Some row) e (inl same) =
          let rows : h.name ≡ row = same_Some h.name row (sym h.called ∙ e) in
          subst IsPut (h.uri ∙ (ap (λ (r : NameRow). roa_uri site r.name o.origin) rows ∙ same)) (roa-put o at h)

  pub wanted-put : (uri : List ℕ) → In uri wanted → IsPut uri
  wanted-put uri at =
      by (in-parts uri (flat_map (key_uris site configs) nexts) (flat_map (owed_uris site configs) plan_input.owed) at)
    where
      of-key : (next : NextKey) (k : KeyRow) → In k ks → Beside next k
          → In uri (certificate_uris site configs next) ⊎ In uri (point_uris site (slice_get names next.desk) next.name) → IsPut uri
      of-key next k here beside (inl there) = wanted-cert next k here beside uri there
      of-key next k here beside (inr there) = wanted-point next k here beside uri there

      by : In uri (flat_map (key_uris site configs) nexts) ⊎ In uri (flat_map (owed_uris site configs) plan_input.owed) → IsPut uri
      by (inl there) =
          let w = flat-in (key_uris site configs) uri nexts there in
          let k = right-of Beside nexts ks w.0 known.sides w.1 in
          of-key w.0 k.0 k.1 k.2
          (in-parts uri (certificate_uris site configs w.0) (point_uris site (slice_get names w.0.desk) w.0.name) w.2)
      by (inr there) =
          let w = flat-in (owed_uris site configs) uri plan_input.owed there in
          wanted-roa w.0 w.1 uri w.2
