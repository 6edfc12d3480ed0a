-- What an edition wants has a place that is wanted and known, or that of a key that is made; so none of it is withdrawn.
use Rattle.std.proofs.Common.{◌≡◌, ◌≢◌, ℕ, eqb, Bool, true, false, cond, not, Option, Some, List, [], ◌∷◌, ◌++◌, filter, refl, sym, ap, subst, ◌∙◌, ◌⊎◌, inl, inr}
use Rattle.std.specs.List.{All, slice_get, flat_map}
use Rattle.std.specs.Str.{bytes_eq}
use Rattle.std.proofs.lemmas.Bool.{false≢true, eqb-true, eq-eqb}
use Rattle.std.proofs.lemmas.Slice.Eq.{bytes_eq-Decides}
use Rattle.names.specs.Name.{IsName}
use Rattle.key_ids.specs.Uris.{Bases, anchor_uri, cert_uri, crl_uri, manifest_uri}
use Rattle.authority_book.specs.declared.rows.NameRow.{NameRow}
use Rattle.authority_book.specs.Settings.{Settings}
use Rattle.entitle.specs.declared.trees.Owed.{Owed}
use Rattle.entitle.specs.Certified.{names_of}
use Rattle.key_roll.specs.declared.rows.KeyRow.{KeyRow}
use Rattle.key_roll.specs.declared.issued.IssuedRow.{IssuedRow}
use Rattle.key_roll.specs.declared.work.KeyName.{KeyName}
use Rattle.key_roll.specs.declared.work.KeyName.TheVariants.{Live, Fresh}
use Rattle.issue_keys.specs.Keys.{id_of}
use Rattle.issue_drafts.specs.Drafts.{Draft, Kind}
use Rattle.issue_drafts.specs.Drafts.Kind.{Crl, Manifest}
use Rattle.issue_plan.specs.declared.keys.NextKey.{NextKey}
use Rattle.issue_plan.specs.Keys.{next_keys}
use Rattle.issue_plan.specs.Wanted.{PlanInput, parent_of}
use Rattle.issue_plan.specs.Uris.{certificate_below, certificate_uris, point_uris, key_uris, roa_uris, owed_uris, wanted_uris, is_among, withdrawn}
use Rattle.editions.specs.Clear.{IsElsewhere, IsClear}
use Rattle.items.specs.laws.AmongLaws.{In, in-all, contains-in, in-front, in-behind, in-parts, in-map, map-in, in-filter, filter-in, any-in, in-any}
use Rattle.editions.proofs.PlanLemmas.Pairs.{left-of}
use Rattle.editions.proofs.PlanLemmas.Beside.{IsBeside, IsNamed}
use Rattle.editions.proofs.PlanLemmas.Drafted.{AreKnown, crl_for, manifest_for, all_certs, all_roas, all_crls, all_manifests, all_puts, HasCert, HasPoint, HasRoa}
use Rattle.editions.proofs.PlanLemmas.Once.{own-bytes, name-ok, listed-ok, cert-from, crl-from, manifest-from, roa-from}
use Rattle.editions.proofs.PlanLemmas.Wanted.{in-flat}
use Rattle.editions.proofs.ObjectLemmas.Fitting.{IsKeyOf, IsKept}

-- ---- what is withdrawn

pub among-is : (wanted : List (List ℕ)) (uri : List ℕ) → is_among wanted uri ≡ true → In uri wanted
among-is wanted uri e =
    let w = in-any (λ (other : List ℕ). bytes_eq other uri) wanted e in
    subst (λ (u : List ℕ). In u wanted) ((bytes_eq-Decides w.0 uri).0 w.2) w.1

pub withdrawn-from : (wanted : List (List ℕ)) (issued : List IssuedRow) (uri : List ℕ) → In uri (withdrawn wanted issued)
    → (row : IssuedRow) × In row issued × (row.uri ≡ uri) × (is_among wanted uri ≡ false)
withdrawn-from wanted issued uri at =
    let m = map-in (λ (r : IssuedRow). r.uri) uri (filter (λ (r : IssuedRow). not (is_among wanted r.uri)) issued) at in
    let f = filter-in (λ (r : IssuedRow). not (is_among wanted r.uri)) m.0 issued m.1 in
    (m.0, f.0, m.2, off (is_among wanted uri) (ap (λ (u : List ℕ). not (is_among wanted u)) (sym m.2) ∙ f.1))
  where
    off : (b : Bool) → not b ≡ true → b ≡ false
    off false e = refl
    off true e = absurd (false≢true e)

pub in-withdrawn : (wanted : List (List ℕ)) (issued : List IssuedRow) (row : IssuedRow) → In row issued → is_among wanted row.uri ≡ false
    → In row.uri (withdrawn wanted issued)
in-withdrawn wanted issued row at e =
    in-map (λ (r : IssuedRow). r.uri) row (filter (λ (r : IssuedRow). not (is_among wanted r.uri)) issued)
    (in-filter (λ (r : IssuedRow). not (is_among wanted r.uri)) row issued (ap not e) at)

-- Where the certificate and the point of a next key are wanted.
cert-wanted : (site : Bases) (configs : List Settings) (next : NextKey) (parent : List ℕ) (name : KeyName) (id : List ℕ)
    → next.desk ≢ 0 → parent_of (slice_get configs next.desk) ≡ Some parent → (uri : List ℕ)
    → In uri (certificate_below site (Some parent) name) → next.name ≡ name → In uri (certificate_uris site configs next)
cert-wanted site configs next parent name id off called uri at e =
    let below : In uri (certificate_below site (parent_of (slice_get configs next.desk)) next.name) =
    subst (λ (n : KeyName). In uri (certificate_below site (parent_of (slice_get configs next.desk)) n)) (sym e)
    (subst (λ (o : Option (List ℕ)). In uri (certificate_below site o name)) (sym called) at) in
    by (eqb next.desk 0) refl below
  where
    by : (b : Bool) → eqb next.desk 0 ≡ b → In uri (certificate_below site (parent_of (slice_get configs next.desk)) next.name)
        → In uri (cond b (anchor_uri site ∷ []) (certificate_below site (parent_of (slice_get configs next.desk)) next.name))
    by true f below = absurd (off (eqb-true next.desk 0 f))
    by false f below = below

anchor-wanted : (site : Bases) (configs : List Settings) (next : NextKey) → next.desk ≡ 0
    → In (anchor_uri site) (certificate_uris site configs next)
anchor-wanted site configs next anchor = by (eqb next.desk 0) (eq-eqb next.desk 0 anchor)
  where
    by : (b : Bool) → b ≡ true
        → In (anchor_uri site) (cond b (anchor_uri site ∷ []) (certificate_below site (parent_of (slice_get configs next.desk)) next.name))
    by true e = inl refl
    by false e = absurd (false≢true e)

module _ (plan_input : PlanInput) (ks : List KeyRow) (known : AreKnown plan_input ks)
    (plain : All (λ row. IsName row.name) (names_of plan_input.basis.configs)) where
  abbrev site : Bases
  site = plan_input.site

  abbrev configs : List Settings
  configs = plan_input.basis.configs

  abbrev names : List NameRow
  names = names_of plan_input.basis.configs

  abbrev nexts : List NextKey
  nexts = next_keys plan_input.basis

  abbrev Beside : NextKey → KeyRow → Type 0
  Beside = IsBeside plan_input.basis.rows

  abbrev wanted : List (List ℕ)
  wanted = wanted_uris site configs nexts plan_input.owed

  -- A file of a key that wasn't live.
  pub record IsNewFile (d : Draft) : Type 0 where
    pub key : KeyRow
    pub new : All (λ live. id_of live ≢ id_of key) plan_input.basis.rows
    pub of : IsKeyOf d d.kind key
    pub there : (uri : List ℕ) → IsElsewhere site (id_of key) uri → uri ≢ d.uri

  -- It is wanted, or a file of such a key.
  abbrev pub IsFree : Draft → Type 0
  IsFree d = In d.uri wanted ⊎ IsNewFile d

  key-wanted : (next : NextKey) (uri : List ℕ) → In next nexts → In uri (key_uris site configs next) → In uri wanted
  key-wanted next uri at there =
      in-front uri (flat_map (key_uris site configs) nexts) (flat_map (owed_uris site configs) plan_input.owed)
      (in-flat (key_uris site configs) next uri nexts at there)

  free-cert : (k : KeyRow) → In k ks → (h : HasCert plan_input ks k) → IsFree h.draft
  free-cert k at h =
      let n = left-of Beside nexts ks k known.sides at in
      by n.0 n.1 n.2 (eqb k.desk 0) refl
    where
      below : (next : NextKey) → In next nexts → Beside next k → k.desk ≢ 0 → (name : KeyName) → next.name ≡ name
          → IsNamed plan_input.basis.rows k name → IsFree h.draft
      below next here beside off (Live id) e named =
          let c = h.below off in
          let called : parent_of (slice_get configs next.desk) ≡ Some c.0 =
          ap (λ (d : ℕ). parent_of (slice_get configs d)) (sym beside.desk) ∙ c.1 in
          let there : In h.draft.uri (certificate_uris site configs next) =
          cert-wanted site configs next c.0 (Live id) (id_of k) (λ zero_desk. off (beside.desk ∙ zero_desk)) called h.draft.uri
          (inl (ap (λ (l : List ℕ). cert_uri site c.0 l) named ∙ sym c.3)) e in
          inl (key-wanted next h.draft.uri here
          (in-front h.draft.uri (certificate_uris site configs next) (point_uris site (slice_get names next.desk) next.name) there))
      below next here beside off (Fresh desk) e named =
          let c = h.below off in
          inr (record {
            key = k;
            new = named;
            of = subst (λ (kind : Kind). IsKeyOf h.draft kind k) (sym h.kind) refl;
            there = λ uri is same. is.certificate c.0 (listed-ok configs c.0 plain c.2) (same ∙ c.3);
          })

      by : (next : NextKey) → In next nexts → Beside next k → (b : Bool) → eqb k.desk 0 ≡ b → IsFree h.draft
      by next here beside true e =
          let anchor : k.desk ≡ 0 = eqb-true k.desk 0 e in
          let there : In h.draft.uri (certificate_uris site configs next) =
          subst (λ (u : List ℕ). In u (certificate_uris site configs next)) (sym (h.anchor anchor))
          (anchor-wanted site configs next (sym beside.desk ∙ anchor)) in
          inl (key-wanted next h.draft.uri here
          (in-front h.draft.uri (certificate_uris site configs next) (point_uris site (slice_get names next.desk) next.name) there))
      by next here beside false e =
          below next here beside (λ zero_desk. false≢true (sym e ∙ eq-eqb k.desk 0 zero_desk)) next.name refl beside.named

  point-wanted : (k : KeyRow) (next : NextKey) (name : NameRow) (id : List ℕ) (uri : List ℕ) → In next nexts → Beside next k
      → slice_get names k.desk ≡ Some name → (key : KeyName) → next.name ≡ key
      → In uri (point_uris site (Some name) key) → In uri wanted
  point-wanted k next name id uri here beside called key e at =
      let there : In uri (point_uris site (slice_get names next.desk) next.name) =
      subst (λ (n : KeyName). In uri (point_uris site (slice_get names next.desk) n)) (sym e)
      (subst (λ (o : Option NameRow). In uri (point_uris site o key))
      (sym (ap (slice_get names) (sym beside.desk) ∙ called)) at) in
      key-wanted next uri here
      (in-behind uri (certificate_uris site configs next) (point_uris site (slice_get names next.desk) next.name) there)

  free-crl : (k : KeyRow) → In k ks → (h : HasPoint plan_input (crl_for plan_input ks k) Crl (crl_uri site) k)
      → IsFree h.draft
  free-crl k at h =
      let n = left-of Beside nexts ks k known.sides at in
      by n.0 n.1 n.2 n.0.name refl n.2.named
    where
      by : (next : NextKey) → In next nexts → Beside next k → (name : KeyName) → next.name ≡ name
          → IsNamed plan_input.basis.rows k name → IsFree h.draft
      by next here beside (Live id) e named =
          inl (point-wanted k next h.name (id_of k) h.draft.uri here beside h.called (Live id) e
          (inl (ap (λ (l : List ℕ). crl_uri site h.name.name l) named ∙ sym h.uri)))
      by next here beside (Fresh desk) e named = inr (record {
        key = k;
        new = named;
        of = subst (λ (kind : Kind). IsKeyOf h.draft kind k) (sym h.kind) h.issuer;
        there = λ uri is same. is.crl h.name.name (name-ok configs k.desk h.name plain h.called) (same ∙ h.uri);
      })

  free-manifest : (k : KeyRow) → In k ks → (h : HasPoint plan_input (manifest_for plan_input ks k) Manifest (manifest_uri site) k)
      → IsFree h.draft
  free-manifest k at h =
      let n = left-of Beside nexts ks k known.sides at in
      by n.0 n.1 n.2 n.0.name refl n.2.named
    where
      by : (next : NextKey) → In next nexts → Beside next k → (name : KeyName) → next.name ≡ name
          → IsNamed plan_input.basis.rows k name → IsFree h.draft
      by next here beside (Live id) e named =
          inl (point-wanted k next h.name (id_of k) h.draft.uri here beside h.called (Live id) e
          (inr (inl (ap (λ (l : List ℕ). manifest_uri site h.name.name l) named ∙ sym h.uri))))
      by next here beside (Fresh desk) e named = inr (record {
        key = k;
        new = named;
        of = subst (λ (kind : Kind). IsKeyOf h.draft kind k) (sym h.kind) h.issuer;
        there = λ uri is same. is.manifest h.name.name (name-ok configs k.desk h.name plain h.called) (same ∙ h.uri);
      })

  free-roa : (o : Owed) → In o plan_input.owed → (h : HasRoa plan_input ks o) → IsFree h.draft
  free-roa o at h =
      let there : In h.draft.uri (owed_uris site configs o) =
      subst (λ (n : Option NameRow). In h.draft.uri (roa_uris site o.origin n)) (sym h.called) (inl (sym h.uri)) in
      inl (in-behind h.draft.uri (flat_map (key_uris site configs) nexts) (flat_map (owed_uris site configs) plan_input.owed)
      (in-flat (owed_uris site configs) o h.draft.uri plan_input.owed at there))

  pub put-free : (d : Draft) → In d (all_puts plan_input ks) → IsFree d
  put-free d at =
      by (in-parts d ((all_certs plan_input ks ++ all_roas plan_input ks) ++ all_crls plan_input ks) (all_manifests plan_input ks) at)
    where
      first : In d (all_certs plan_input ks) ⊎ In d (all_roas plan_input ks) → IsFree d
      first (inl c) =
          let w = cert-from plan_input ks known d c in
          subst IsFree w.3 (free-cert w.0 w.1 w.2)
      first (inr c) =
          let w = roa-from plan_input ks known d c in
          subst IsFree w.3 (free-roa w.0 w.1 w.2)

      second : In d (all_certs plan_input ks ++ all_roas plan_input ks) ⊎ In d (all_crls plan_input ks) → IsFree d
      second (inl c) = first (in-parts d (all_certs plan_input ks) (all_roas plan_input ks) c)
      second (inr c) =
          let w = crl-from plan_input ks known d c in
          subst IsFree w.3 (free-crl w.0 w.1 w.2)

      by : In d ((all_certs plan_input ks ++ all_roas plan_input ks) ++ all_crls plan_input ks) ⊎ In d (all_manifests plan_input ks)
          → IsFree d
      by (inl c) = second (in-parts d (all_certs plan_input ks ++ all_roas plan_input ks) (all_crls plan_input ks) c)
      by (inr c) =
          let w = manifest-from plan_input ks known d c in
          subst IsFree w.3 (free-manifest w.0 w.1 w.2)

  -- What is withdrawn isn't wanted.
  pub not-wanted : (uri : List ℕ) → In uri (withdrawn wanted plan_input.issued) → In uri wanted → ⊥
  not-wanted uri there among =
      let w = withdrawn-from wanted plan_input.issued uri there in
      false≢true (sym w.3 ∙ any-in (λ (other : List ℕ). bytes_eq other uri) wanted uri among ((bytes_eq-Decides uri uri).1 refl))

  -- What stays is wanted.
  pub kept-wanted : (d : Draft) → In d (all_puts plan_input ks) → IsKept plan_input ks d → In d.uri wanted
  kept-wanted d at kept = by (put-free d at)
    where
      by : IsFree d → In d.uri wanted
      by (inl among) = among
      by (inr new) =
          let live = kept.born new.key new.of in
          absurd (in-all (λ (row : KeyRow). id_of row ≢ id_of new.key) live.0 plan_input.basis.rows new.new
          (contains-in live.0 plan_input.basis.rows live.1) live.2)

  -- Nothing that is wanted is withdrawn.
  module _ (clear : IsClear plan_input.site plan_input.basis.rows plan_input.issued) where
    pub put-stays : (d : Draft) → In d (all_puts plan_input ks) → (uri : List ℕ) → In uri (withdrawn wanted plan_input.issued) → d.uri ≢ uri
    put-stays d at uri there same = by (put-free d at)
      where
        by : IsFree d → ⊥
        by (inl among) = not-wanted uri there (subst (λ (u : List ℕ). In u wanted) same among)
        by (inr new) =
            let w = withdrawn-from wanted plan_input.issued uri there in
            new.there w.0.uri
            (in-all (λ (r : IssuedRow). IsElsewhere site (id_of new.key) r.uri) w.0 plan_input.issued
            (clear.places (id_of new.key) (own-bytes new.key) new.new) w.1) (w.2 ∙ sym same)
