-- What is wanted by the plan's names, beside what is wanted by those of the edition's keys, and where a settled key's
-- certificate stands.
use Rattle.std.proofs.Common.{◌≡◌, ◌≢◌, ℕ, ◌==◌, ◌&&◌, Bool, true, false, Option, None, Some, List, [], ◌∷◌, ◌++◌, map, find, inl, inr, refl, sym, ap, subst, ◌∙◌}
use Rattle.std.specs.Prelude.{Contains, cond, option_map, option_and_then, slice_get}
use Rattle.std.specs.Str.{bytes_eq}
use Rattle.std.proofs.lemmas.Bool.{false_from_ne_true, eqb-true}
use Rattle.std.proofs.lemmas.Option.{same_Some, none-some}
use Rattle.std.proofs.lemmas.List.{append-nil}
use Rattle.std.proofs.lemmas.Slice.Eq.{bytes_eq-Decides}
use Rattle.res_sets.specs.declared.holdings.Resources.{Resources}
use Rattle.entitle.specs.declared.trees.Owed.{Owed}
use Rattle.entitle.specs.Certified.{names_of}
use Rattle.key_ids.specs.Uris.{anchor_uri}
use Rattle.key_ids.specs.declared.identifier.KeyId.{KeyId}
use Rattle.key_roll.specs.declared.rows.KeyRow.{KeyRow}
use Rattle.key_roll.specs.declared.issued.IssuedRow.{IssuedRow}
use Rattle.key_roll.specs.declared.work.CertWork.{CertWork}
use Rattle.key_roll.specs.declared.work.RoaWork.{RoaWork}
use Rattle.key_roll.specs.declared.work.KeyName.{KeyName}
use Rattle.key_roll.specs.declared.work.KeyName.TheVariants.{Live, Fresh}
use Rattle.key_roll.specs.declared.rows.Role.TheVariants.{Current}
use Rattle.key_roll.specs.Roles.{is_role}
use Rattle.issue_plan.specs.declared.keys.NextKey.{NextKey}
use Rattle.issue_plan.specs.Keys as plan
use Rattle.issue_plan.specs.Keys.{next_keys, kept, is_live}
use Rattle.issue_plan.specs.Fits as fits
use Rattle.issue_plan.specs.Fits.{live_row, settled, is_settled, certificate_place, certificate_place_by}
use Rattle.issue_plan.specs.Serves.{is_for}
use Rattle.issue_plan.specs.Wanted.{PlanInput, certificate, certificate_of, issuer_of, parents_desk, current_of, current_at, roa_by, roa_of}
use Rattle.issue_plan.specs.laws.FitLaws as laws
use Rattle.issue_plan.specs.laws.FitLaws.{none-filtered}
use Rattle.issue_keys.specs.Keys.{id_of}
use Rattle.issue_keys.specs.Indexes.{has_id}
use Rattle.issue_drafts.specs.Publishers.{made_uri, made_for, names_key, first_of, standing_for, publishing_of}
use Rattle.issue_drafts.specs.WorkKeys.{key_named, key_of}
use Rattle.editions.specs.Wanted.{there, whole, all_certificates, all_roas}
use Rattle.items.specs.laws.AmongLaws.{In, in-all, found-in, some-found, map-in, filter-map-in, in-contains}
use Rattle.items.specs.laws.PairLaws.{Sides}
use Rattle.editions.proofs.PlanLemmas.There.{Names, all-named}
use Rattle.editions.proofs.PlanLemmas.Beside.{IsNamed, are-beside}
use Rattle.editions.proofs.PlanLemmas.Beside as named
use Rattle.editions.proofs.ObjectLemmas.Alike.{IsUnborn, AreAlike, none-live}
use Rattle.editions.proofs.ObjectLemmas.WantedBeside.{Both, find-both, IsBeside, IsSameCert, IsSameRoa, certs-beside, roas-beside}
use Rattle.editions.proofs.ObjectLemmas.Named.{self-named}
use Rattle.editions.proofs.ObjectLemmas.Kept.{IsOver, two-live}

mapped : {X Y : Type 0} (f : X → Y) (o : Option X) (y : Y) → option_map f o ≡ Some y
    → (x : X) × (o ≡ Some x) × (f x ≡ y)
mapped f None y e = absurd cc
mapped f (Some x) y e = (x, refl, same_Some (f x) y e)

then-some : {X Y : Type 0} (f : X → Option Y) (o : Option X) (y : Y) → option_and_then f o ≡ Some y
    → (x : X) × (o ≡ Some x) × (f x ≡ Some y)
then-some f None y e = absurd cc
then-some f (Some x) y e = (x, refl, e)

alike-name : (rows : List KeyRow) (key : KeyRow) (name : KeyName) → IsNamed rows key name
    → AreAlike rows name (kept key).name
alike-name rows key (Live id) same = inl (ap (λ (bytes : List ℕ). live (record { bytes = bytes })) same)
  where
    live : KeyId → KeyName
    live id = Live id
alike-name rows key (Fresh desk) new = inr (tt, new)

all-beside : (rows : List KeyRow) (nexts : List NextKey) (keys : List KeyRow) → Sides (named.IsBeside rows) nexts keys
    → Sides (IsBeside (AreAlike rows)) nexts keys
all-beside rows [] [] sides = tt
all-beside rows [] (key ∷ keys) sides = absurd sides
all-beside rows (next ∷ nexts) [] sides = absurd sides
all-beside rows (next ∷ nexts) (key ∷ keys) sides = (
  record {
    name = alike-name rows key next.name sides.0.named;
    desk = sides.0.desk;
    role = sides.0.role;
  },
  all-beside rows nexts keys sides.1,
)

-- ---- the keys that are named

cert-parts : (name : KeyName) (o : Option KeyName) (set : Option Resources) (cert : CertWork)
    → certificate name o set ≡ Some cert → (cert.subject ≡ name) × (o ≡ Some cert.issuer)
cert-parts name None set cert e = absurd cc
cert-parts name (Some issuer) None cert e = absurd cc
cert-parts name (Some issuer) (Some set) cert e =
    let same = same_Some (record { subject = name; issuer = issuer; held = set }) cert e in
    (ap (λ (c : CertWork). c.subject) (sym same), ap (λ (c : CertWork). Some c.issuer) same)

roa-parts : (owed : Owed) (o : Option KeyName) (roa : RoaWork) → roa_by owed o ≡ Some roa → o ≡ Some roa.issuer
roa-parts owed None roa e = absurd cc
roa-parts owed (Some issuer) roa e =
    ap (λ (r : RoaWork). Some r.issuer) (same_Some (record { issuer = issuer; origin = owed.origin }) roa e)

module _ (plan_input : PlanInput) (keys : List KeyRow) where
  abbrev now : List NextKey
  now = map kept keys

  -- The name of one of the keys.
  abbrev IsOfKey : KeyName → Type 0
  IsOfKey name = (key : KeyRow) × In key keys × (name ≡ (kept key).name)

  of-current : (desk : ℕ) (name : KeyName) → current_of now desk ≡ Some name → IsOfKey name
  of-current desk name e =
      let n = mapped (λ (key : NextKey). key.name)
      (find (λ (key : NextKey). (key.desk == desk) && is_role key.role Current) now) name e in
      let f = found-in (λ (key : NextKey). (key.desk == desk) && is_role key.role Current) now n.0 n.1 in
      let k = map-in kept n.0 keys f.0 in
      (k.0, k.1, sym n.2 ∙ ap (λ (key : NextKey). key.name) (sym k.2))

  of-above : (o : Option ℕ) (name : KeyName) → current_at now o ≡ Some name → IsOfKey name
  of-above None name e = absurd cc
  of-above (Some desk) name e = of-current desk name e

  of-issuer : (key : KeyRow) → In key keys → (name : KeyName)
      → issuer_of plan_input.basis.configs now (kept key) ≡ Some name → IsOfKey name
  of-issuer key at name e = by (key.desk == 0) e
    where
      by : (b : Bool) → cond b (Some (kept key).name)
          (current_at now (parents_desk plan_input.basis.configs key.desk)) ≡ Some name → IsOfKey name
      by true e = (key, at, sym (same_Some (kept key).name name e))
      by false e = of-above (parents_desk plan_input.basis.configs key.desk) name e

  abbrev IsThere : KeyName → Type 0
  IsThere name = (key : KeyRow) × (key_named (there keys) name ≡ Some key)

  there-is : (name : KeyName) → IsOfKey name → IsThere name
  there-is name of =
      let s = self-named keys of.0 (in-contains of.0 keys of.1) in
      (s.0, ap (key_named (there keys)) of.2 ∙ s.1)

  -- What is wanted names keys that are there.
  pub cert-there : (cert : CertWork) → In cert (all_certificates plan_input keys)
      → IsThere cert.subject × IsThere cert.issuer
  cert-there cert at =
      let n = filter-map-in (certificate_of plan_input.basis.configs plan_input.basis.sets now) cert now at in
      let k = map-in kept n.0 keys n.1 in
      let parts = cert-parts (kept k.0).name (issuer_of plan_input.basis.configs now (kept k.0))
      (slice_get plan_input.basis.sets k.0.desk) cert
      (ap (certificate_of plan_input.basis.configs plan_input.basis.sets now) k.2 ∙ n.2) in
      (there-is cert.subject (k.0, k.1, parts.0), there-is cert.issuer (of-issuer k.0 k.1 cert.issuer parts.1))

  pub roa-there : (roa : RoaWork) → In roa (all_roas plan_input keys) → IsThere roa.issuer
  roa-there roa at =
      let o = filter-map-in (roa_of now) roa plan_input.owed at in
      there-is roa.issuer (of-current o.0.desk roa.issuer (roa-parts o.0 (current_of now o.0.desk) roa o.2))

  -- ---- by identifiers

  pub names-is : (key : KeyRow) → In key keys → (name : KeyName)
      → names_key (there keys) name key ≡ is_live (plan.id_of key) name
  names-is key at (Fresh desk) = refl
  names-is key at (Live id) = by (key_named (there keys) (Live id)) refl
    where
      test : KeyRow → Bool
      test row = bytes_eq (id_of row) id.bytes

      by : (o : Option KeyRow) → find test (keys ++ []) ≡ o
          → has_id (id_of key) (option_map key_of o) ≡ bytes_eq id.bytes (id_of key)
      by None e =
          sym (false_from_ne_true (bytes_eq id.bytes (id_of key)) (λ same.
          let passes : test key ≡ true =
          (bytes_eq-Decides (id_of key) id.bytes).1 (sym ((bytes_eq-Decides id.bytes (id_of key)).0 same)) in
          let f = some-found test (keys ++ []) key (subst (In key) (sym (append-nil keys)) at) passes in
          none-some f.0 (sym e ∙ f.1)))
      by (Some other) e =
          ap (λ (bytes : List ℕ). bytes_eq bytes (id_of key))
          ((bytes_eq-Decides (id_of other) id.bytes).0 (found-in test (keys ++ []) other e).1)

-- A live key by its name.
pub live-among : (rows : List KeyRow) (name : KeyName) (row : KeyRow) → live_row rows name ≡ Some row → Contains rows row
live-among rows (Live id) row e =
    in-contains row rows (found-in (λ (r : KeyRow). bytes_eq (plan.id_of r).bytes id.bytes) rows row e).0
live-among rows (Fresh desk) row e = absurd cc

-- ---- side by side

module _ (plan_input : PlanInput) (keys : List KeyRow) (over : IsOver plan_input keys) where
  abbrev rows : List KeyRow
  rows = plan_input.basis.rows

  abbrev pub IsAlike : KeyName → KeyName → Type 0
  IsAlike = AreAlike rows

  beside : Sides (IsBeside IsAlike) (next_keys plan_input.basis) keys
  beside =
      all-beside rows (next_keys plan_input.basis) keys
      (are-beside rows over.apart (next_keys plan_input.basis) keys
      (λ key here. in-all (λ (k : NextKey). Names rows k.desk k.name) key (next_keys plan_input.basis)
      (all-named plan_input.basis) here) over.next.each)

  pub certs : Sides (IsSameCert IsAlike) (fits.all_certificates plan_input) (all_certificates plan_input keys)
  certs = certs-beside plan_input.basis IsAlike (next_keys plan_input.basis) keys beside

  pub roas : Sides (IsSameRoa IsAlike) (fits.all_roas plan_input) (all_roas plan_input keys)
  roas = roas-beside plan_input.basis IsAlike (next_keys plan_input.basis) keys beside plan_input.owed

  -- ---- the name of a live key

  unborn-other : (row : KeyRow) → In row rows → (name : KeyName) → IsUnborn rows name
      → is_live (plan.id_of row) name ≡ false
  unborn-other row at (Live id) unborn =
      false_from_ne_true (bytes_eq id.bytes (id_of row)) (λ same.
      in-all (λ (r : KeyRow). id_of r ≢ id.bytes) row rows unborn at
      (sym ((bytes_eq-Decides id.bytes (id_of row)).0 same)))
  unborn-other row at (Fresh desk) unborn = refl

  pub live-alike : (row : KeyRow) → In row rows → (one other : KeyName) → IsAlike one other
      → is_live (plan.id_of row) one ≡ is_live (plan.id_of row) other
  live-alike row at one other (inl same) = ap (is_live (plan.id_of row)) same
  live-alike row at one other (inr unborn) =
      unborn-other row at one unborn.0 ∙ sym (unborn-other row at other unborn.1)

  -- ---- the certificate of a settled key

  abbrev place-of : KeyRow → KeyRow → List ℕ
  place-of issuer subject =
      certificate_place_by plan_input.site (names_of plan_input.basis.configs) issuer.desk
      (plan.id_of issuer) (plan.id_of subject)

  record IsPlace (cert : CertWork) (place : List ℕ) : Type 0 where
    issuer : KeyRow
    subject : KeyRow
    by : live_row rows cert.issuer ≡ Some issuer
    of : live_row rows cert.subject ≡ Some subject
    is : place-of issuer subject ≡ place

  is-place : (cert : CertWork) (place : List ℕ) → certificate_place plan_input rows cert ≡ Some place
      → IsPlace cert place
  is-place cert place e =
      let i = then-some (λ issuer. option_map (place-of issuer) (live_row rows cert.subject))
      (live_row rows cert.issuer) place e in
      let s = mapped (place-of i.0) (live_row rows cert.subject) place i.2 in
      record { issuer = i.0; subject = s.0; by = i.1; of = s.1; is = s.2 }

  -- A name that a live key has is no other's.
  pub live-same : (one other : KeyName) (row : KeyRow) → live_row rows one ≡ Some row → IsAlike one other → one ≡ other
  live-same one other row live (inl same) = same
  live-same one other row live (inr unborn) = absurd (none-some row (sym (none-live rows one unborn.0) ∙ live))

  pub settled-same : (one other : KeyName) (row : KeyRow) → live_row (settled plan_input) one ≡ Some row
      → IsAlike one other → one ≡ other
  settled-same one other row live (inl same) = same
  settled-same one other row live (inr unborn) =
      absurd (none-some row (sym (none-filtered (is_settled plan_input) rows one (none-live rows one unborn.0)) ∙ live))

  pub settled-id : (id : KeyId) (row : KeyRow) → live_row (settled plan_input) (Live id) ≡ Some row → id_of row ≡ id.bytes
  settled-id id row live =
      (bytes_eq-Decides (id_of row) id.bytes).0
      (found-in (λ (r : KeyRow). bytes_eq (plan.id_of r).bytes id.bytes) (settled plan_input) row live).1

  live-id : (name : KeyName) (row subject : KeyRow) → live_row rows name ≡ Some subject
      → is_live (plan.id_of row) name ≡ true → id_of subject ≡ id_of row
  live-id (Live id) row subject live is =
      (bytes_eq-Decides (id_of subject) id.bytes).0
      (found-in (λ (r : KeyRow). bytes_eq (plan.id_of r).bytes id.bytes) rows subject live).1
      ∙ (bytes_eq-Decides id.bytes (id_of row)).0 is
  live-id (Fresh desk) row subject live is = absurd cc

  module _ (live key : KeyRow) (was : In live rows) (at : In key keys) (same : id_of key ≡ id_of live) where
    abbrev is-own : CertWork → Bool
    is-own cert = is_live (plan.id_of live) cert.subject

    abbrev is-now : CertWork → Bool
    is-now cert = names_key (there keys) cert.subject key

    both-found : Both (IsSameCert IsAlike) (find is-own (fits.all_certificates plan_input))
        (find is-now (all_certificates plan_input keys))
    both-found = find-both (IsSameCert IsAlike) is-own is-now (fits.all_certificates plan_input)
        (all_certificates plan_input keys) (λ one other alike.
        live-alike live was one.subject other.subject alike.0
        ∙ (ap (λ (id : List ℕ). is_live (record { bytes = id }) other.subject) (sym same)
        ∙ sym (names-is plan_input keys key at other.subject))) certs

    -- It is certified at the place where it is wanted.
    home-made : (cert : CertWork) (place : List ℕ) → find is-own (fits.all_certificates plan_input) ≡ Some cert
        → certificate_place plan_input rows cert ≡ Some place
        → made_for (whole plan_input keys) (there keys) key ≡ Some place
    home-made cert place found e =
        by (find is-now (all_certificates plan_input keys)) refl
        (subst (λ (o : Option CertWork). Both (IsSameCert IsAlike) o (find is-now (all_certificates plan_input keys)))
        found both-found)
      where
        p : IsPlace cert place
        p = is-place cert place e

        of : KeyRow → List ℕ
        of issuer = made_uri plan_input.site (names_of plan_input.basis.configs) issuer key

        by : (o : Option CertWork) → find is-now (all_certificates plan_input keys) ≡ o
            → Both (IsSameCert IsAlike) (Some cert) o
            → made_for (whole plan_input keys) (there keys) key ≡ Some place
        by None f both = absurd both
        by (Some other) f both =
            let inside = found-in is-now (all_certificates plan_input keys) other f in
            let issuer = (cert-there plan_input keys other inside.0).1 in
            let name : cert.issuer ≡ other.issuer = live-same cert.issuer other.issuer p.issuer p.by both.1 in
            let two = two-live plan_input keys over other.issuer issuer.0 p.issuer issuer.1
            (ap (live_row rows) (sym name) ∙ p.by) in
            let own : id_of p.subject ≡ id_of key =
            live-id cert.subject live p.subject p.of
            (found-in is-own (fits.all_certificates plan_input) cert found).1 ∙ sym same in
            let moved : of issuer.0 ≡ place-of p.issuer p.subject =
            λ j. certificate_place_by plan_input.site (names_of plan_input.basis.configs) (two.0 j)
            (record { bytes = two.1 j }) (record { bytes = sym own j }) in
            ap (λ (o : Option CertWork). option_map of (option_and_then (λ (c : CertWork). key_named (there keys) c.issuer) o)) f
            ∙ (ap (option_map of) issuer.1 ∙ ap (λ (u : List ℕ). Some u) (moved ∙ p.is))

    pub home-stands : is_settled plan_input live ≡ true → key.desk ≡ live.desk → key.desk ≢ 0
        → (above : IssuedRow) × Contains plan_input.issued above
        × (above.uri ≡ (publishing_of (whole plan_input keys) (there keys) key).certificate)
    home-stands so desks other =
        let below : (live.desk == 0) ≡ false =
        false_from_ne_true (live.desk == 0) (λ zero. other (desks ∙ eqb-true live.desk 0 zero)) in
        let mine : (key.desk == 0) ≡ false =
        false_from_ne_true (key.desk == 0) (λ zero. other (eqb-true key.desk 0 zero)) in
        let h = laws.home plan_input live so below in
        let w = then-some (certificate_place plan_input rows) (find is-own (fits.all_certificates plan_input)) h.place h.wanted in
        let made = home-made w.0 h.place w.1 w.2 in
        let inside = found-in (λ (r : IssuedRow). is_for (Live (plan.id_of live)) r.what) plan_input.issued h.row h.first in (
          h.row,
          in-contains h.row plan_input.issued inside.0,
          (bytes_eq-Decides h.row.uri h.place).0 h.at
              ∙ sym (ap (λ (b : Bool). cond b (anchor_uri plan_input.site)
              (first_of (made_for (whole plan_input keys) (there keys) key) (standing_for plan_input.issued key)
              (anchor_uri plan_input.site))) mine
              ∙ ap (λ (o : Option (List ℕ)). first_of o (standing_for plan_input.issued key) (anchor_uri plan_input.site)) made),
        )
