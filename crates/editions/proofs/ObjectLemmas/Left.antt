-- What stands in the set of an edition is made for a draft in it, or stood before it.
use Rattle.std.proofs.Common.{◌≡◌, ℕ, suc, zero, ◌+◌, ◌<◌, ◌≤◌, Bool, true, false, Option, Some, None, List, [], ◌∷◌, ◌++◌, length, take, map, refl, sym, ap, subst, ◌∙◌, arith, ◌⊎◌, inl, inr}
use Rattle.std.specs.Prelude.{Contains, is_some, ⊤, slice_get, option_map, option_and_then}
use Rattle.std.specs.List.{filter_map}
use Rattle.std.specs.Str.{bytes_eq}
use Rattle.std.proofs.lemmas.Bool.{cases_eq, cases_lt}
use Rattle.std.proofs.lemmas.Option.{same_Some, none-some}
use Rattle.std.proofs.lemmas.List.{append-nil, take_all, take-take}
use Rattle.std.proofs.lemmas.List.Elements.{All-contains, Contains-append_cases}
use Rattle.key_roll.specs.declared.rows.KeyRow.{KeyRow}
use Rattle.key_roll.specs.declared.work.CertWork.{CertWork}
use Rattle.key_roll.specs.declared.work.PointWork.{PointWork}
use Rattle.key_roll.specs.declared.work.KeyName.{KeyName}
use Rattle.key_roll.specs.declared.work.KeyName.TheVariants.{Live, Fresh}
use Rattle.key_ids.specs.Uris.{crl_uri, manifest_uri}
use Rattle.issue_values.specs.Publishers.{roa_uri}
use Rattle.pub_set.specs.Changes.{Contents}
use Rattle.issue_plan.specs.Keys.{kept}
use Rattle.issue_plan.specs.Wanted.{point_of}
use Rattle.issue_keys.specs.Keys.{id_of}
use Rattle.issue_drafts.specs.WorkKeys.{Keys, key_named}
use Rattle.issue_drafts.specs.IssueInput.{IssueInput}
use Rattle.issue_drafts.specs.Publishers.{name_at, made_uri}
use Rattle.issue_drafts.specs.Drafts.{Draft, Kind, certificate_draft, roa_draft, crl_draft, manifest_draft, drafts, manifests}
use Rattle.issue_drafts.specs.Drafts.Kind.{Certificate, Roa, Crl, Manifest}
use Rattle.editions.specs.Edition.{Edition, set_after}
use Rattle.editions.specs.Step.{Premises, IsStep, AreSteps}
use Rattle.editions.specs.Wanted.{there, whole, all_certificates, all_roas, all_points, all_objects, keeps_certificate, keeps_roa, keeps_point}
use Rattle.editions.specs.Objects.{Issuance, IsObject, IsLeft, IsDone, IsNewSet}
use Rattle.editions.specs.MadeIn.{issuance_of, WasMade}
use Rattle.items.specs.laws.ElementLaws.{from-map, from-filter_map, found-in}
use Rattle.editions.proofs.ObjectLemmas.Standing.{IsPlacedAt}
use Rattle.editions.proofs.ObjectLemmas.History.{set-before, there-is}

-- ---- keys of drafts

live-named : (keys : List KeyRow) (name : KeyName) (x : KeyRow) → key_named (there keys) name ≡ Some x
    → Contains keys x
live-named keys (Live id) x e =
    subst (λ (l : List KeyRow). Contains l x) (append-nil keys)
    (found-in (λ row. bytes_eq (id_of row) id.bytes) (keys ++ []) x e).0
live-named keys (Fresh desk) x e = absurd cc

-- The key that a certificate is for is live too.
abbrev pub IsSubject : List KeyRow → Kind → Type 0
IsSubject keys (Certificate subject held) = Contains keys subject
IsSubject keys (Roa origin) = ⊤
IsSubject keys Crl = ⊤
IsSubject keys Manifest = ⊤

-- A draft of live keys, at its place.
pub record IsOfKeys (m : Issuance) (d : Draft) : Type 0 where
  pub live : Contains m.keys d.issuer
  pub placed : IsPlacedAt m d d.kind
  pub subject : IsSubject m.keys d.kind

abbrev certificate-for : IssueInput → CertWork → KeyRow → KeyRow → Draft
certificate-for s cert issuer subject = record {
  uri = made_uri s.site s.names issuer subject;
  issuer = issuer;
  kind = Certificate subject cert.held;
}

module _ (m : Issuance) where
  abbrev s : IssueInput
  s = whole m.plan_input m.keys

  abbrev keys : Keys
  keys = there m.keys

  abbrev points : List PointWork
  points = all_points m.keys

  certificate-keys : (cert : CertWork) (d : Draft) → certificate_draft s keys cert ≡ Some d → IsOfKeys m d
  certificate-keys cert d e = by (key_named keys cert.issuer) refl (key_named keys cert.subject) refl e
    where
      by : (o : Option KeyRow) → key_named keys cert.issuer ≡ o → (of : Option KeyRow)
          → key_named keys cert.subject ≡ of
          → option_and_then (λ issuer. option_map (certificate-for s cert issuer) of) o ≡ Some d
          → IsOfKeys m d
      by None is of has e = absurd cc
      by (Some issuer) is None has e = absurd cc
      by (Some issuer) is (Some subject) has e =
          subst (IsOfKeys m) (same_Some (certificate-for s cert issuer subject) d e) (record {
            live = live-named m.keys cert.issuer issuer is;
            placed = refl;
            subject = live-named m.keys cert.subject subject has;
          })

  -- The same of a draft that has an issuer alone.
  issuer-keys : (make : KeyRow → Draft) (name : KeyName) (d : Draft)
      → option_map make (key_named keys name) ≡ Some d
      → ((issuer : KeyRow) → Contains m.keys issuer → IsOfKeys m (make issuer)) → IsOfKeys m d
  issuer-keys make name d e each = by (key_named keys name) refl e
    where
      by : (o : Option KeyRow) → key_named keys name ≡ o → option_map make o ≡ Some d → IsOfKeys m d
      by None is e = absurd cc
      by (Some issuer) is e =
          subst (IsOfKeys m) (same_Some (make issuer) d e) (each issuer (live-named m.keys name issuer is))

  crl-keys : (point : PointWork) (d : Draft) → crl_draft s keys point ≡ Some d → IsOfKeys m d
  crl-keys point d e = issuer-keys (λ issuer. record {
    uri = crl_uri s.site (name_at s.names issuer.desk) (id_of issuer);
    issuer = issuer;
    kind = Crl;
  }) point.key d e (λ issuer live. record { live = live; placed = refl; subject = tt })

  manifest-keys : (point : PointWork) (d : Draft) → manifest_draft s keys point ≡ Some d → IsOfKeys m d
  manifest-keys point d e = issuer-keys (λ issuer. record {
    uri = manifest_uri s.site (name_at s.names issuer.desk) (id_of issuer);
    issuer = issuer;
    kind = Manifest;
  }) point.key d e (λ issuer live. record { live = live; placed = refl; subject = tt })

  -- ---- each of all drafts

  -- What holds of the drafts of each kind holds of all.
  pub each-draft : (P : Draft → Type 0)
      → ((d : Draft) → Contains (filter_map (certificate_draft s keys) (all_certificates m.plan_input m.keys)) d → P d)
      → ((d : Draft) → Contains (filter_map (roa_draft s keys) (all_roas m.plan_input m.keys)) d → P d)
      → ((d : Draft) → Contains (filter_map (crl_draft s keys) points) d → P d)
      → ((d : Draft) → Contains (filter_map (manifest_draft s keys) points) d → P d)
      → (d : Draft) → Contains (all_objects m.plan_input m.keys) d → P d
  each-draft P certificate roa crl manifest d c = elim (Contains-append_cases (drafts s keys) (manifests s keys) d c) [
    | inr last ↦ manifest d last
    | inl inside ↦ elim (Contains-append_cases
        (filter_map (certificate_draft s keys) (all_certificates m.plan_input m.keys)
        ++ filter_map (roa_draft s keys) (all_roas m.plan_input m.keys))
        (filter_map (crl_draft s keys) points) d inside) [
          | inr third ↦ crl d third
          | inl more ↦ elim (Contains-append_cases
              (filter_map (certificate_draft s keys) (all_certificates m.plan_input m.keys))
              (filter_map (roa_draft s keys) (all_roas m.plan_input m.keys)) d more) [
                | inl first ↦ certificate d first
                | inr second ↦ roa d second
              ]
        ]
  ]

  pub of-keys : (d : Draft) → Contains (all_objects m.plan_input m.keys) d → IsOfKeys m d
  of-keys = each-draft (IsOfKeys m)
      (λ d c. let from = from-filter_map (certificate_draft s keys) (all_certificates m.plan_input m.keys) d c in
      certificate-keys from.0 d from.2)
      (λ d c. let from = from-filter_map (roa_draft s keys) (all_roas m.plan_input m.keys) d c in
      issuer-keys (λ issuer. record {
        uri = roa_uri s.site (name_at s.names issuer.desk) from.0.origin;
        issuer = issuer;
        kind = Roa from.0.origin;
      }) from.0.issuer d from.2 (λ issuer live. record { live = live; placed = refl; subject = tt }))
      (λ d c. let from = from-filter_map (crl_draft s keys) points d c in crl-keys from.0 d from.2)
      (λ d c. let from = from-filter_map (manifest_draft s keys) points d c in manifest-keys from.0 d from.2)

  -- ---- kept, or made

  -- Whatever of it is kept: the draft's place is as it was, or has an object that is made.
  abbrev IsEither : Draft → Type 0
  IsEither d = (m.new d.uri ≡ m.old d.uri)
      ⊎ ((bytes : List ℕ) × (m.new d.uri ≡ Some bytes) × IsObject m d d.kind bytes)

  left-by : (is_kept : Bool) (d : Draft) → IsLeft m d is_kept → IsEither d
  left-by true d left = inl left
  left-by false d left = inr left

  done-by : (is_kept : Bool) (o : Option Draft) (d : Draft) → o ≡ Some d → IsDone m is_kept o → IsEither d
  done-by is_kept o d e done = left-by is_kept d (subst (IsDone m is_kept) e done)

  -- The key of a point that is wanted.
  key-of-point : (point : PointWork) → Contains points point
      → (key : KeyRow) × Contains m.keys key × (point_of (kept key) ≡ point)
  key-of-point point c =
      let next = from-map point_of (map kept m.keys) point c in
      let key = from-map kept m.keys next.0 next.1 in
      (key.0, key.1, ap point_of key.2 ∙ next.2)

  module _ (set : IsNewSet m) where
    either : (d : Draft) → Contains (all_objects m.plan_input m.keys) d → IsEither d
    either = each-draft IsEither
        (λ d c. let from = from-filter_map (certificate_draft s keys) (all_certificates m.plan_input m.keys) d c in
        done-by (keeps_certificate m.plan_input m.keys from.0) (certificate_draft s keys from.0) d from.2
        (All-contains (λ cert. IsDone m (keeps_certificate m.plan_input m.keys cert) (certificate_draft s keys cert))
        (all_certificates m.plan_input m.keys) from.0 set.certificates from.1))
        (λ d c. let from = from-filter_map (roa_draft s keys) (all_roas m.plan_input m.keys) d c in
        done-by (keeps_roa m.plan_input m.keys from.0) (roa_draft s keys from.0) d from.2
        (All-contains (λ roa. IsDone m (keeps_roa m.plan_input m.keys roa) (roa_draft s keys roa))
        (all_roas m.plan_input m.keys) from.0 set.roas from.1))
        (λ d c. let from = from-filter_map (crl_draft s keys) points d c in
        let key = key-of-point from.0 from.1 in
        done-by (keeps_point m.plan_input m.keys key.0) (crl_draft s keys (point_of (kept key.0))) d
        (ap (crl_draft s keys) key.2 ∙ from.2)
        (All-contains (λ k. IsDone m (keeps_point m.plan_input m.keys k) (crl_draft s keys (point_of (kept k))))
        m.keys key.0 set.crls key.1))
        (λ d c. let from = from-filter_map (manifest_draft s keys) points d c in
        let key = key-of-point from.0 from.1 in
        done-by (keeps_point m.plan_input m.keys key.0) (manifest_draft s keys (point_of (kept key.0))) d
        (ap (manifest_draft s keys) key.2 ∙ from.2)
        (All-contains (λ k. IsDone m (keeps_point m.plan_input m.keys k) (manifest_draft s keys (point_of (kept k))))
        m.keys key.0 set.manifests key.1))

    -- The draft of what stands at a URI.
    pub draft-at : (uri bytes : List ℕ) → m.new uri ≡ Some bytes
        → (d : Draft) × Contains (all_objects m.plan_input m.keys) d × (d.uri ≡ uri)
        × ((m.old uri ≡ Some bytes) ⊎ IsObject m d d.kind bytes)
    draft-at uri bytes stands =
        let any = (set.places uri).0 (ap is_some stands) in
        let d : Draft = any.1 in
        let among : Contains (all_objects m.plan_input m.keys) d = (any.0, any.2, any.3) in
        let here : m.new d.uri ≡ Some bytes = ap m.new any.4 ∙ stands in (
          d,
          among,
          any.4,
          elim (either d among) [
            | inl left ↦ inl (ap m.old (sym any.4) ∙ (sym left ∙ here))
            | inr made ↦ inr (subst (IsObject m d d.kind) (same_Some made.0 bytes (sym made.1 ∙ here)) made.2)
          ],
        )

-- ---- which edition made it

module _ (premises : Premises) (editions : List Edition) (steps : AreSteps premises editions) where
  -- It is made in an edition before that position, and stands unchanged until then.
  record IsMadeBefore (uri bytes : List ℕ) (n : ℕ) : Type 0 where
    position : ℕ
    edition : Edition
    there : slice_get editions position ≡ Some edition
    clock : ℕ
    step : IsStep premises clock (take position editions) edition
    draft : Draft
    wanted : Contains (all_objects (issuance_of premises clock (take position editions) edition step).plan_input
        step.made.keys) draft
    place : draft.uri ≡ uri
    object : IsObject (issuance_of premises clock (take position editions) edition step) draft draft.kind bytes
    since : (later : ℕ) → position ≤ later → later < n → set_after (take (later + 1) editions) uri ≡ Some bytes

  set-at : (k later : ℕ) (uri : List ℕ) → later ≡ k
      → set_after (take (later + 1) editions) uri ≡ set_after (take (suc k) editions) uri
  set-at k later uri same =
      let next : later + 1 ≡ suc k = omega (arith, same) in
      ap (λ (n : ℕ). set_after (take n editions) uri) next

  -- One edition more.
  one-more : (k : ℕ) (edition : Edition) → slice_get editions k ≡ Some edition → (clock : ℕ)
      → IsStep premises clock (take k editions) edition → (uri bytes : List ℕ)
      → ((set_after (take k editions) uri ≡ Some bytes) → IsMadeBefore uri bytes k)
      → set_after (take (suc k) editions) uri ≡ Some bytes → IsMadeBefore uri bytes (suc k)
  one-more k edition there clock step uri bytes before stands =
      let m : Issuance = issuance_of premises clock (take k editions) edition step in
      let at = draft-at m step.made.set uri bytes
      (ap (λ (set : Contents). set uri) (set-before editions k edition there) ∙ stands) in
      elim (at.3) [
        | inr object ↦ record {
          position = k;
          edition = edition;
          there = there;
          clock = clock;
          step = step;
          draft = at.0;
          wanted = at.1;
          place = at.2;
          object = object;
          since = λ later least less.
              let same : later ≡ k = omega (arith, least, less) in
              set-at k later uri same ∙ stands;
        }
        | inl old ↦
            let rest = before old in
            record {
              position = rest.position;
              edition = rest.edition;
              there = rest.there;
              clock = rest.clock;
              step = rest.step;
              draft = rest.draft;
              wanted = rest.wanted;
              place = rest.place;
              object = rest.object;
              since = λ later least less. elim (cases_eq later k) [
                | inl same ↦ set-at k later uri same ∙ stands
                | inr apart ↦ rest.since later least (omega (arith, less, apart))
              ];
            }
      ]

  made-before : (n : ℕ) → n ≤ length editions → (uri bytes : List ℕ)
      → set_after (take n editions) uri ≡ Some bytes → IsMadeBefore uri bytes n
  made-before zero within uri bytes stands = absurd (none-some bytes stands)
  made-before (suc k) within uri bytes stands =
      let last = there-is editions k (omega (arith, within)) in
      let step = steps k last.0 last.1 in
      one-more k last.0 last.1 step.0 step.1 uri bytes
      (made-before k (omega (arith, within)) uri bytes) stands

  pub was-made : (uri bytes : List ℕ) → set_after editions uri ≡ Some bytes → WasMade premises editions uri bytes
  was-made uri bytes stands =
      let all : take (length editions) editions ≡ editions = take_all (length editions) editions (omega arith) in
      let made = made-before (length editions) (omega arith) uri bytes
      (ap (λ (l : List Edition). set_after l uri) all ∙ stands) in (
        made.position,
        record {
          edition = made.edition;
          there = made.there;
          clock = made.clock;
          step = made.step;
          draft = made.draft;
          wanted = made.wanted;
          place = made.place;
          object = made.object;
          since = made.since;
        },
      )

-- ---- the editions up to one

past : (n : ℕ) (xs : List Edition) (k : ℕ) → n ≤ k → slice_get (take n xs) k ≡ None
past zero xs k least = refl
past (suc n) [] k least = refl
past (suc n) (x ∷ xs) zero least = absurd (omega (arith, least))
past (suc n) (x ∷ xs) (suc k) least = past n xs k (omega (arith, least))

taken-at : (n : ℕ) (xs : List Edition) (k : ℕ) → k < n → slice_get (take n xs) k ≡ slice_get xs k
taken-at zero xs k below = absurd (omega (arith, below))
taken-at (suc n) [] k below = refl
taken-at (suc n) (x ∷ xs) zero below = refl
taken-at (suc n) (x ∷ xs) (suc k) below = taken-at n xs k (omega (arith, below))

-- They each follow those before them too.
pub front-steps : (premises : Premises) (editions : List Edition) (n : ℕ) → AreSteps premises editions
    → AreSteps premises (take n editions)
front-steps premises editions n steps position x there = elim (cases_lt position n) [
  | inr from ↦ absurd (none-some x (sym (past n editions position from) ∙ there))
  | inl less ↦
      let now = steps position x (sym (taken-at n editions position less) ∙ there) in (
        now.0,
        subst (λ (taken : List Edition). IsStep premises now.0 taken x)
            (sym (take-take position n editions (omega (arith, less)))) now.1,
      )
]
