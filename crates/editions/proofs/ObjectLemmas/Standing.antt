-- What stands in the set of an edition: each object was made for a draft, or stood before it.
use Rattle.std.proofs.Common.{◌≡◌, ℕ, Bool, true, false, not, Option, Some, List, ◌++◌, map, refl, sym, ap, subst, ◌∙◌, ◌⊎◌, inl, inr}
use Rattle.std.specs.Prelude.{All, Contains, is_some, option_map}
use Rattle.std.specs.List.{filter_map}
use Rattle.std.proofs.lemmas.Bool.{true≢false, false≢true}
use Rattle.std.proofs.lemmas.Option.{same_Some}
use Rattle.std.proofs.lemmas.List.Elements.{All-contains, Contains-append_cases, Contains-append_left, Contains-append_right}
use Rattle.key_roll.specs.declared.rows.KeyRow.{KeyRow}
use Rattle.key_roll.specs.declared.work.CertWork.{CertWork}
use Rattle.key_roll.specs.declared.work.RoaWork.{RoaWork}
use Rattle.key_roll.specs.declared.work.PointWork.{PointWork}
use Rattle.key_roll.specs.declared.work.KeyName.TheVariants.{Live}
use Rattle.key_ids.specs.Uris.{crl_uri, manifest_uri}
use Rattle.entitle.specs.Certified.{names_of}
use Rattle.issue_values.specs.Publishers.{roa_uri}
use Rattle.issue_plan.specs.Keys.{kept}
use Rattle.issue_plan.specs.Fits.{fits}
use Rattle.issue_plan.specs.Wanted.{PlanInput, Point, point_of}
use Rattle.pub_set.specs.Objects.{Rise}
use Rattle.issue_keys.specs.Keys.{id_of}
use Rattle.issue_drafts.specs.WorkKeys.{Keys, key_named}
use Rattle.issue_drafts.specs.IssueInput.{IssueInput}
use Rattle.issue_drafts.specs.Publishers.{name_at, made_uri}
use Rattle.issue_drafts.specs.Drafts.{Draft, Kind, has_serial, certificate_draft, roa_draft, crl_draft, manifest_draft, drafts, manifests}
use Rattle.issue_drafts.specs.Drafts.Kind.{Certificate, Roa, Crl, Manifest}
use Rattle.editions.specs.Wanted.{there, whole, anew, all_certificates, all_roas, all_points, all_objects, new_certificates, new_roas, new_points, new_objects, keeps_certificate, keeps_roa, keeps_point}
use Rattle.editions.specs.Objects.{Issuance, IsObject, IsLeft, IsDone, IsNewSet}
use Rattle.items.specs.laws.ElementLaws.{from-map, from-filter_map, into-filter, into-filter_map}
use Rattle.editions.proofs.ObjectLemmas.Fitting.{IsKept, KeepsFiles, keeps-files, kept-certificate, kept-roa, kept-crl, kept-manifest}
use Rattle.editions.proofs.ObjectLemmas.Kept.{IsOver}
use Rattle.editions.proofs.ObjectLemmas.Named.{key-named, same-named, cert-draft, mapped-draft}

-- ---- points by their keys

-- Whether a point stays is asked of the identifier.
pub keeps-same : (plan_input : PlanInput) (keys : List KeyRow) (one other : KeyRow) → id_of one ≡ id_of other
    → keeps_point plan_input keys one ≡ keeps_point plan_input keys other
keeps-same plan_input keys one other same =
    ap (λ (id : List ℕ). fits plan_input (Point (record { key = Live (record { bytes = id }) }))) same

-- ---- an object and its draft

-- Where the draft's object stands.
abbrev pub IsPlacedAt : Issuance → Draft → Kind → Type 0
IsPlacedAt m d (Certificate subject held) =
    d.uri ≡ made_uri m.plan_input.site (names_of m.plan_input.basis.configs) d.issuer subject
IsPlacedAt m d (Roa origin) =
    d.uri ≡ roa_uri m.plan_input.site
    (name_at (names_of m.plan_input.basis.configs) d.issuer.desk) origin
IsPlacedAt m d Crl =
    d.uri ≡ crl_uri m.plan_input.site
    (name_at (names_of m.plan_input.basis.configs) d.issuer.desk) (id_of d.issuer)
IsPlacedAt m d Manifest =
    d.uri ≡ manifest_uri m.plan_input.site
    (name_at (names_of m.plan_input.basis.configs) d.issuer.desk) (id_of d.issuer)

-- The edition made it. Its point isn't kept, if it is of one.
pub record IsPut (m : Issuance) (d : Draft) (bytes : List ℕ) : Type 0 where
  pub live : Contains m.keys d.issuer
  pub placed : IsPlacedAt m d d.kind
  pub object : IsObject m d d.kind bytes
  pub among : has_serial d.kind ≡ true → Contains (new_objects m.plan_input m.keys) d
  pub point : has_serial d.kind ≡ false → keeps_point m.plan_input m.keys d.issuer ≡ false

-- It stood before, and fits.
pub record IsStood (m : Issuance) (d : Draft) (bytes : List ℕ) : Type 0 where
  pub live : Contains m.keys d.issuer
  pub placed : IsPlacedAt m d d.kind
  pub fit : IsKept m.plan_input m.keys d
  pub stood : m.old d.uri ≡ Some bytes
  pub point : has_serial d.kind ≡ false → keeps_point m.plan_input m.keys d.issuer ≡ true

abbrev pub Leaves : Issuance → Draft → List ℕ → Type 0
Leaves m d bytes = IsPut m d bytes ⊎ IsStood m d bytes

module _ (m : Issuance) (over : IsOver m.plan_input m.keys) (set : IsNewSet m) where
  abbrev s : IssueInput
  s = whole m.plan_input m.keys

  abbrev keys : Keys
  keys = there m.keys

  abbrev points : List PointWork
  points = all_points m.keys

  choose : (is_kept : Bool) (d : Draft) (bytes : List ℕ) → m.new d.uri ≡ Some bytes → IsLeft m d is_kept
      → Contains m.keys d.issuer → IsPlacedAt m d d.kind → (is_kept ≡ true → IsKept m.plan_input m.keys d)
      → (is_kept ≡ false → has_serial d.kind ≡ true → Contains (new_objects m.plan_input m.keys) d)
      → (has_serial d.kind ≡ false → keeps_point m.plan_input m.keys d.issuer ≡ is_kept) → Leaves m d bytes
  choose true d bytes stands left live placed fit among point = inr (record {
    live = live;
    placed = placed;
    fit = fit refl;
    stood = sym left ∙ stands;
    point = point;
  })
  choose false d bytes stands left live placed fit among point = inl (record {
    live = live;
    placed = placed;
    object = subst (IsObject m d d.kind) (same_Some left.0 bytes (sym left.1 ∙ stands)) left.2;
    among = among refl;
    point = point;
  })

  -- What is made anew is among what takes serials.
  new-certificate : (cert : CertWork) (d : Draft) → Contains (all_certificates m.plan_input m.keys) cert
      → certificate_draft s keys cert ≡ Some d → keeps_certificate m.plan_input m.keys cert ≡ false
      → Contains (new_objects m.plan_input m.keys) d
  new-certificate cert d c is isnt =
      let a : IssueInput = anew m.plan_input m.keys in
      let certs : List Draft = filter_map (certificate_draft a keys) (new_certificates m.plan_input m.keys) in
      let roas : List Draft = filter_map (roa_draft a keys) (new_roas m.plan_input m.keys) in
      let inside : Contains (new_certificates m.plan_input m.keys) cert =
      into-filter (λ (w : CertWork). not (keeps_certificate m.plan_input m.keys w))
      (all_certificates m.plan_input m.keys) cert (ap not isnt) c in
      let here : Contains certs d =
      into-filter_map (certificate_draft a keys) (new_certificates m.plan_input m.keys) cert d inside is in
      Contains-append_left (certs ++ roas) (filter_map (crl_draft a keys) (new_points m.plan_input m.keys)) d
      (Contains-append_left certs roas d here)

  new-roa : (roa : RoaWork) (d : Draft) → Contains (all_roas m.plan_input m.keys) roa
      → roa_draft s keys roa ≡ Some d → keeps_roa m.plan_input m.keys roa ≡ false
      → Contains (new_objects m.plan_input m.keys) d
  new-roa roa d c is isnt =
      let a : IssueInput = anew m.plan_input m.keys in
      let certs : List Draft = filter_map (certificate_draft a keys) (new_certificates m.plan_input m.keys) in
      let roas : List Draft = filter_map (roa_draft a keys) (new_roas m.plan_input m.keys) in
      let inside : Contains (new_roas m.plan_input m.keys) roa =
      into-filter (λ (w : RoaWork). not (keeps_roa m.plan_input m.keys w))
      (all_roas m.plan_input m.keys) roa (ap not isnt) c in
      let here : Contains roas d =
      into-filter_map (roa_draft a keys) (new_roas m.plan_input m.keys) roa d inside is in
      Contains-append_left (certs ++ roas) (filter_map (crl_draft a keys) (new_points m.plan_input m.keys)) d
      (Contains-append_right certs roas d here)

  left-certificate : (d : Draft)
      → Contains (filter_map (certificate_draft s keys) (all_certificates m.plan_input m.keys)) d
      → (bytes : List ℕ) → m.new d.uri ≡ Some bytes → Leaves m d bytes
  left-certificate d c bytes stands =
      let from = from-filter_map (certificate_draft s keys) (all_certificates m.plan_input m.keys) d c in
      let keeps : Bool = keeps_certificate m.plan_input m.keys from.0 in
      let done : IsDone m keeps (certificate_draft s keys from.0) = All-contains
      (λ cert. IsDone m (keeps_certificate m.plan_input m.keys cert) (certificate_draft s keys cert))
      (all_certificates m.plan_input m.keys) from.0 set.certificates from.1 in
      let parts = cert-draft s keys from.0 d from.2 in
      choose keeps d bytes stands (subst (IsDone m keeps) from.2 done)
      (subst (λ (x : Draft). Contains m.keys x.issuer) parts.4
      (key-named m.keys from.0.issuer parts.0 parts.2))
      (subst (λ (x : Draft). IsPlacedAt m x x.kind) parts.4 refl)
      (λ e. kept-certificate m.plan_input m.keys over from.0 from.1 e d from.2)
      (λ e some. new-certificate from.0 d from.1 from.2 e)
      (subst (λ (x : Draft). has_serial x.kind ≡ false → keeps_point m.plan_input m.keys x.issuer ≡ keeps) parts.4
      (λ e. absurd (true≢false e)))

  left-roa : (d : Draft)
      → Contains (filter_map (roa_draft s keys) (all_roas m.plan_input m.keys)) d
      → (bytes : List ℕ) → m.new d.uri ≡ Some bytes → Leaves m d bytes
  left-roa d c bytes stands =
      let from = from-filter_map (roa_draft s keys) (all_roas m.plan_input m.keys) d c in
      let keeps : Bool = keeps_roa m.plan_input m.keys from.0 in
      let done : IsDone m keeps (roa_draft s keys from.0) = All-contains
      (λ roa. IsDone m (keeps_roa m.plan_input m.keys roa) (roa_draft s keys roa))
      (all_roas m.plan_input m.keys) from.0 set.roas from.1 in
      let parts = mapped-draft (λ issuer. record {
        uri = roa_uri s.site (name_at s.names issuer.desk) from.0.origin;
        issuer = issuer;
        kind = Roa from.0.origin;
      }) (key_named keys from.0.issuer) d from.2 in
      choose keeps d bytes stands (subst (IsDone m keeps) from.2 done)
      (subst (λ (x : Draft). Contains m.keys x.issuer) parts.2
      (key-named m.keys from.0.issuer parts.0 parts.1))
      (subst (λ (x : Draft). IsPlacedAt m x x.kind) parts.2 refl)
      (λ e. kept-roa m.plan_input m.keys over from.0 from.1 e d from.2)
      (λ e some. new-roa from.0 d from.1 from.2 e)
      (subst (λ (x : Draft). has_serial x.kind ≡ false → keeps_point m.plan_input m.keys x.issuer ≡ keeps) parts.2
      (λ e. absurd (true≢false e)))

  -- The key of a point that is wanted.
  key-of-point : (point : PointWork) → Contains points point
      → (key : KeyRow) × Contains m.keys key × (point_of (kept key) ≡ point)
  key-of-point point c =
      let next = from-map point_of (map kept m.keys) point c in
      let key = from-map kept m.keys next.0 next.1 in
      (key.0, key.1, ap point_of key.2 ∙ next.2)

  left-crl : (d : Draft) → Contains (filter_map (crl_draft s keys) points) d
      → (bytes : List ℕ) → m.new d.uri ≡ Some bytes → Leaves m d bytes
  left-crl d c bytes stands =
      let from = from-filter_map (crl_draft s keys) points d c in
      let key = key-of-point from.0 from.1 in
      let keeps : Bool = keeps_point m.plan_input m.keys key.0 in
      let done : IsDone m keeps (crl_draft s keys (point_of (kept key.0))) = All-contains
      (λ k. IsDone m (keeps_point m.plan_input m.keys k) (crl_draft s keys (point_of (kept k)))) m.keys key.0
      set.crls key.1 in
      let is : crl_draft s keys (point_of (kept key.0)) ≡ Some d = ap (crl_draft s keys) key.2 ∙ from.2 in
      let parts = mapped-draft (λ issuer. record {
        uri = crl_uri s.site (name_at s.names issuer.desk) (id_of issuer);
        issuer = issuer;
        kind = Crl;
      }) (key_named keys (kept key.0).name) d is in
      choose keeps d bytes stands (subst (IsDone m keeps) is done)
      (subst (λ (x : Draft). Contains m.keys x.issuer) parts.2
      (key-named m.keys (kept key.0).name parts.0 parts.1))
      (subst (λ (x : Draft). IsPlacedAt m x x.kind) parts.2 refl)
      (λ e. kept-crl m.plan_input m.keys over key.0 key.1 e d is)
      (subst (λ (x : Draft). keeps ≡ false → has_serial x.kind ≡ true
      → Contains (new_objects m.plan_input m.keys) d) parts.2 (λ isnt e. absurd (false≢true e)))
      (subst (λ (x : Draft). has_serial x.kind ≡ false → keeps_point m.plan_input m.keys x.issuer ≡ keeps) parts.2
      (λ e. keeps-same m.plan_input m.keys parts.0 key.0 (same-named m.keys key.0 parts.0 parts.1)))

  left-manifest : (d : Draft) → Contains (filter_map (manifest_draft s keys) points) d
      → (bytes : List ℕ) → m.new d.uri ≡ Some bytes → Leaves m d bytes
  left-manifest d c bytes stands =
      let from = from-filter_map (manifest_draft s keys) points d c in
      let key = key-of-point from.0 from.1 in
      let keeps : Bool = keeps_point m.plan_input m.keys key.0 in
      let done : IsDone m keeps (manifest_draft s keys (point_of (kept key.0))) = All-contains
      (λ k. IsDone m (keeps_point m.plan_input m.keys k) (manifest_draft s keys (point_of (kept k)))) m.keys key.0
      set.manifests key.1 in
      let is : manifest_draft s keys (point_of (kept key.0)) ≡ Some d = ap (manifest_draft s keys) key.2 ∙ from.2 in
      let parts = mapped-draft (λ issuer. record {
        uri = manifest_uri s.site (name_at s.names issuer.desk) (id_of issuer);
        issuer = issuer;
        kind = Manifest;
      }) (key_named keys (kept key.0).name) d is in
      choose keeps d bytes stands (subst (IsDone m keeps) is done)
      (subst (λ (x : Draft). Contains m.keys x.issuer) parts.2
      (key-named m.keys (kept key.0).name parts.0 parts.1))
      (subst (λ (x : Draft). IsPlacedAt m x x.kind) parts.2 refl)
      (λ e. kept-manifest m.plan_input m.keys over key.0 key.1 e d is)
      (subst (λ (x : Draft). keeps ≡ false → has_serial x.kind ≡ true
      → Contains (new_objects m.plan_input m.keys) d) parts.2 (λ isnt e. absurd (false≢true e)))
      (subst (λ (x : Draft). has_serial x.kind ≡ false → keeps_point m.plan_input m.keys x.issuer ≡ keeps) parts.2
      (λ e. keeps-same m.plan_input m.keys parts.0 key.0 (same-named m.keys key.0 parts.0 parts.1)))

  -- ---- the files of a key with its point kept

  stays-by : (is_kept : Bool) (d : Draft) → is_kept ≡ true → IsLeft m d is_kept → m.new d.uri ≡ m.old d.uri
  stays-by true d keeps left = left
  stays-by false d keeps left = absurd (true≢false (sym keeps))

  module _ (rising : Rise (λ row. row.uri) m.plan_input.issued) (key : KeyRow) (c : Contains m.keys key)
      (keeps : keeps_point m.plan_input m.keys key ≡ true) where
    files : KeepsFiles m.plan_input m.keys key
    files = keeps-files m.plan_input m.keys over rising key c keeps

    stays-certificate : (d : Draft) → id_of d.issuer ≡ id_of key
        → Contains (filter_map (certificate_draft s keys) (all_certificates m.plan_input m.keys)) d
        → m.new d.uri ≡ m.old d.uri
    stays-certificate d same inside =
        let from = from-filter_map (certificate_draft s keys) (all_certificates m.plan_input m.keys) d inside in
        let is : Bool = keeps_certificate m.plan_input m.keys from.0 in
        let done : IsDone m is (certificate_draft s keys from.0) = All-contains
        (λ cert. IsDone m (keeps_certificate m.plan_input m.keys cert) (certificate_draft s keys cert))
        (all_certificates m.plan_input m.keys) from.0 set.certificates from.1 in
        let parts = cert-draft s keys from.0 d from.2 in
        stays-by is d (files.certificates from.0 from.1 parts.0 parts.2
        (ap (λ (x : Draft). id_of x.issuer) parts.4 ∙ same)) (subst (IsDone m is) from.2 done)

    stays-roa : (d : Draft) → id_of d.issuer ≡ id_of key
        → Contains (filter_map (roa_draft s keys) (all_roas m.plan_input m.keys)) d
        → m.new d.uri ≡ m.old d.uri
    stays-roa d same inside =
        let from = from-filter_map (roa_draft s keys) (all_roas m.plan_input m.keys) d inside in
        let is : Bool = keeps_roa m.plan_input m.keys from.0 in
        let done : IsDone m is (roa_draft s keys from.0) = All-contains
        (λ roa. IsDone m (keeps_roa m.plan_input m.keys roa) (roa_draft s keys roa))
        (all_roas m.plan_input m.keys) from.0 set.roas from.1 in
        let parts = mapped-draft (λ issuer. record {
          uri = roa_uri s.site (name_at s.names issuer.desk) from.0.origin;
          issuer = issuer;
          kind = Roa from.0.origin;
        }) (key_named keys from.0.issuer) d from.2 in
        stays-by is d (files.roas from.0 from.1 parts.0 parts.1
        (ap (λ (x : Draft). id_of x.issuer) parts.2 ∙ same)) (subst (IsDone m is) from.2 done)

    stays-point : (make : KeyRow → Draft) → ((k : KeyRow) → (make k).issuer ≡ k)
        → All (λ k. IsDone m (keeps_point m.plan_input m.keys k) (option_map make (key_named keys (kept k).name))) m.keys
        → (d : Draft) → id_of d.issuer ≡ id_of key
        → Contains (filter_map (λ (point : PointWork). option_map make (key_named keys point.key)) points) d
        → m.new d.uri ≡ m.old d.uri
    stays-point make own all d same inside =
        let f : PointWork → Option Draft = λ point. option_map make (key_named keys point.key) in
        let from = from-filter_map f points d inside in
        let k = key-of-point from.0 from.1 in
        let is : Bool = keeps_point m.plan_input m.keys k.0 in
        let done : IsDone m is (option_map make (key_named keys (kept k.0).name)) = All-contains
        (λ x. IsDone m (keeps_point m.plan_input m.keys x) (option_map make (key_named keys (kept x).name)))
        m.keys k.0 all k.1 in
        let draft : option_map make (key_named keys (kept k.0).name) ≡ Some d = ap f k.2 ∙ from.2 in
        let parts = mapped-draft make (key_named keys (kept k.0).name) d draft in
        let id : id_of k.0 ≡ id_of key = sym (same-named m.keys k.0 parts.0 parts.1)
        ∙ (ap id_of (sym (own parts.0)) ∙ (ap (λ (x : Draft). id_of x.issuer) parts.2 ∙ same)) in
        stays-by is d (keeps-same m.plan_input m.keys k.0 key id ∙ keeps) (subst (IsDone m is) draft done)

    -- What is wanted of the key fits.
    fits-point : (make : KeyRow → Draft) → ((k : KeyRow) → (make k).issuer ≡ k)
        → ((k : KeyRow) → Contains m.keys k → keeps_point m.plan_input m.keys k ≡ true → (d : Draft)
        → option_map make (key_named keys (kept k).name) ≡ Some d → IsKept m.plan_input m.keys d)
        → (d : Draft) → id_of d.issuer ≡ id_of key
        → Contains (filter_map (λ (point : PointWork). option_map make (key_named keys point.key)) points) d
        → IsKept m.plan_input m.keys d
    fits-point make own fit d same inside =
        let f : PointWork → Option Draft = λ point. option_map make (key_named keys point.key) in
        let from = from-filter_map f points d inside in
        let k = key-of-point from.0 from.1 in
        let draft : option_map make (key_named keys (kept k.0).name) ≡ Some d = ap f k.2 ∙ from.2 in
        let parts = mapped-draft make (key_named keys (kept k.0).name) d draft in
        let id : id_of k.0 ≡ id_of key = sym (same-named m.keys k.0 parts.0 parts.1)
        ∙ (ap id_of (sym (own parts.0)) ∙ (ap (λ (x : Draft). id_of x.issuer) parts.2 ∙ same)) in
        fit k.0 k.1 (keeps-same m.plan_input m.keys k.0 key id ∙ keeps) d draft

    fits-certificate : (d : Draft) → id_of d.issuer ≡ id_of key
        → Contains (filter_map (certificate_draft s keys) (all_certificates m.plan_input m.keys)) d
        → IsKept m.plan_input m.keys d
    fits-certificate d same inside =
        let from = from-filter_map (certificate_draft s keys) (all_certificates m.plan_input m.keys) d inside in
        let parts = cert-draft s keys from.0 d from.2 in
        kept-certificate m.plan_input m.keys over from.0 from.1
        (files.certificates from.0 from.1 parts.0 parts.2 (ap (λ (x : Draft). id_of x.issuer) parts.4 ∙ same)) d from.2

    fits-roa : (d : Draft) → id_of d.issuer ≡ id_of key
        → Contains (filter_map (roa_draft s keys) (all_roas m.plan_input m.keys)) d → IsKept m.plan_input m.keys d
    fits-roa d same inside =
        let from = from-filter_map (roa_draft s keys) (all_roas m.plan_input m.keys) d inside in
        let parts = mapped-draft (λ issuer. record {
          uri = roa_uri s.site (name_at s.names issuer.desk) from.0.origin;
          issuer = issuer;
          kind = Roa from.0.origin;
        }) (key_named keys from.0.issuer) d from.2 in
        kept-roa m.plan_input m.keys over from.0 from.1
        (files.roas from.0 from.1 parts.0 parts.1 (ap (λ (x : Draft). id_of x.issuer) parts.2 ∙ same)) d from.2

    pub files-fit : (d : Draft) → Contains (all_objects m.plan_input m.keys) d → id_of d.issuer ≡ id_of key
        → IsKept m.plan_input m.keys d
    files-fit d among same = elim (Contains-append_cases (drafts s keys) (manifests s keys) d among) [
      | inr manifest ↦ fits-point (λ issuer. record {
        uri = manifest_uri s.site (name_at s.names issuer.desk) (id_of issuer);
        issuer = issuer;
        kind = Manifest;
      }) (λ k. refl) (kept-manifest m.plan_input m.keys over) d same manifest
      | inl inside ↦ elim (Contains-append_cases
          (filter_map (certificate_draft s keys) (all_certificates m.plan_input m.keys)
          ++ filter_map (roa_draft s keys) (all_roas m.plan_input m.keys))
          (filter_map (crl_draft s keys) points) d inside) [
            | inr crl ↦ fits-point (λ issuer. record {
              uri = crl_uri s.site (name_at s.names issuer.desk) (id_of issuer);
              issuer = issuer;
              kind = Crl;
            }) (λ k. refl) (kept-crl m.plan_input m.keys over) d same crl
            | inl more ↦ elim (Contains-append_cases
                (filter_map (certificate_draft s keys) (all_certificates m.plan_input m.keys))
                (filter_map (roa_draft s keys) (all_roas m.plan_input m.keys)) d more) [
                  | inl certificate ↦ fits-certificate d same certificate
                  | inr roa ↦ fits-roa d same roa
                ]
          ]
    ]

    -- What is wanted of the key stays.
    pub files-stay : (d : Draft) → Contains (all_objects m.plan_input m.keys) d → id_of d.issuer ≡ id_of key
        → m.new d.uri ≡ m.old d.uri
    files-stay d among same = elim (Contains-append_cases (drafts s keys) (manifests s keys) d among) [
      | inr manifest ↦ stays-point (λ issuer. record {
        uri = manifest_uri s.site (name_at s.names issuer.desk) (id_of issuer);
        issuer = issuer;
        kind = Manifest;
      }) (λ k. refl) set.manifests d same manifest
      | inl inside ↦ elim (Contains-append_cases
          (filter_map (certificate_draft s keys) (all_certificates m.plan_input m.keys)
          ++ filter_map (roa_draft s keys) (all_roas m.plan_input m.keys))
          (filter_map (crl_draft s keys) points) d inside) [
            | inr crl ↦ stays-point (λ issuer. record {
              uri = crl_uri s.site (name_at s.names issuer.desk) (id_of issuer);
              issuer = issuer;
              kind = Crl;
            }) (λ k. refl) set.crls d same crl
            | inl more ↦ elim (Contains-append_cases
                (filter_map (certificate_draft s keys) (all_certificates m.plan_input m.keys))
                (filter_map (roa_draft s keys) (all_roas m.plan_input m.keys)) d more) [
                  | inl certificate ↦ stays-certificate d same certificate
                  | inr roa ↦ stays-roa d same roa
                ]
          ]
    ]

  -- ---- each draft

  pub left-draft : (d : Draft) → Contains (all_objects m.plan_input m.keys) d
      → (bytes : List ℕ) → m.new d.uri ≡ Some bytes → Leaves m d bytes
  left-draft d c bytes stands = elim (Contains-append_cases (drafts s keys) (manifests s keys) d c) [
    | inr manifest ↦ left-manifest d manifest bytes stands
    | inl inside ↦ elim (Contains-append_cases
        (filter_map (certificate_draft s keys) (all_certificates m.plan_input m.keys)
        ++ filter_map (roa_draft s keys) (all_roas m.plan_input m.keys))
        (filter_map (crl_draft s keys) points) d inside) [
          | inr crl ↦ left-crl d crl bytes stands
          | inl more ↦ elim (Contains-append_cases
              (filter_map (certificate_draft s keys) (all_certificates m.plan_input m.keys))
              (filter_map (roa_draft s keys) (all_roas m.plan_input m.keys)) d more) [
                | inl certificate ↦ left-certificate d certificate bytes stands
                | inr roa ↦ left-roa d roa bytes stands
              ]
        ]
  ]

  -- Of what stands at a URI there is the draft.
  pub left-at : (uri bytes : List ℕ) → m.new uri ≡ Some bytes
      → (d : Draft) × Contains (all_objects m.plan_input m.keys) d × (d.uri ≡ uri) × Leaves m d bytes
  left-at uri bytes stands =
      let any = (set.places uri).0 (ap is_some stands) in
      let d : Draft = any.1 in
      let c : Contains (all_objects m.plan_input m.keys) d = (any.0, any.2, any.3) in
      (d, c, any.4, left-draft d c bytes (ap m.new any.4 ∙ stands))
