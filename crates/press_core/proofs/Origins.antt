-- Origins that are owed and yielded, by the URIs of their ROAs.
use Rattle.std.proofs.Common.{◌≡◌, ℕ, zero, suc, ◌<◌, Bool, true, false, not, List, [], ◌∷◌, ◌++◌, map, length, string_bytes, Option, None, Some, refl, sym, ap, ap₂, subst, ◌∙◌, arith, ◌⊎◌, inl, inr}
use Rattle.std.specs.Prelude.{All, Contains}
use Rattle.std.specs.Option.{option_map_or}
use Rattle.std.specs.Str.{bytes_eq}
use Rattle.std.proofs.lemmas.Bool.{false≢true}
use Rattle.std.proofs.lemmas.Option.{slice_get-get_or}
use Rattle.std.proofs.lemmas.Slice.Eq.{bytes_eq-Decides}
use Rattle.items.specs.laws.AmongLaws.{In, in-any, any-in, in-map, map-in, in-parts, flat-map-in, contains-in, in-contains}
use Rattle.names.specs.Name.{IsName}
use Rattle.origins.specs.declared.Prefix.{Prefix}
use Rattle.origins.specs.declared.Origin.{Origin}
use Rattle.key_ids.specs.Uris.{Bases, folder_of}
use Rattle.pub_set.specs.declared.objects.Object.{Object}
use Rattle.pub_set.specs.Objects.{content_at}
use Rattle.authority_book.specs.declared.rows.NameRow.{NameRow}
use Rattle.authority_book.specs.Settings.{Settings}
use Rattle.entitle.specs.declared.trees.Owed.{Owed}
use Rattle.entitle.specs.Certified.{names_of}
use Rattle.entitle.specs.Owed.{AreOwed, AreOwedByFirst, at_desk}
use Rattle.issue_values.specs.Publishers.{roa_uri}
use Rattle.issue_plan.specs.Uris.{roa_file}
use Rattle.issue_drafts.specs.Publishers.{name_at}
use Rattle.payloads.specs.RoaFormats.{Entry, roa_asn, roa_entries}
use Rattle.rp_rules.specs.declared.audited.YieldedOrigin.{YieldedOrigin}
use Rattle.rp_rules.specs.Certificates.{WalkContext}
use Rattle.rp_rules.specs.Walk.{Visit, Certificate, Published, Route}
use Rattle.rp_rules.specs.Accepted.{AreAccepted}
use Rattle.rp_rules.specs.Views.{yielded_values}
use Rattle.rp_rules.specs.Yield.{Yielded, yielded_of, yielded_by, yield}
use Rattle.editions.specs.Published.{yielded_for}
use Rattle.press_core.specs.Agreement.{IsRoaUri, IsInOne, IsOtherOrigin, AreSameOrigins, owed_yield}
use Rattle.press_core.specs.inner.Resumed.{RoaPlace, uri_of, yield_at, owed_place, owed_places, yielded_places, stands_at, IsOtherPlace, IsInFolder, AreInFolders}
use Rattle.press_core.proofs.Visited.{route-named}

-- The laws of the layers below that this rests on.
pub record AreOriginLaws : Type 0 where
  pub apart : (site : Bases) (a b : List ℕ) (o p : Origin) → IsName a → IsName b → roa_uri site a o ≡ roa_uri site b p → (a ≡ b) × (o ≡ p)
  pub prefix : (p q : Prefix) → p.v6 ≡ q.v6 → p.address ≡ q.address → p.length ≡ q.length → p ≡ q
  pub origin : (o p : Origin) → o.prefix ≡ p.prefix → o.max ≡ p.max → o.asn ≡ p.asn → o ≡ p

-- ---- places and what they yield

pub owed-yields : (site : Bases) (names : List NameRow) (owed : List Owed) → map (yielded_for site names) owed ≡ map yield_at (owed_places site names owed)
owed-yields site names [] = refl
owed-yields site names (o ∷ owed) = ap (λ (rest : List Yielded). yielded_for site names o ∷ rest) (owed-yields site names owed)

pub found-yields : (yielded : List YieldedOrigin) → yielded_values yielded ≡ map yield_at (yielded_places yielded)
found-yields [] = refl
found-yields (y ∷ yielded) = ap (λ (rest : List Yielded). yield_at (string_bytes y.folder, y.origin) ∷ rest) (found-yields yielded)

-- ---- folders of what is owed

first-desks : (configs : List Settings) (n : ℕ) (owed : List Owed) → AreOwedByFirst configs n owed → (o : Owed) → In o owed → o.desk < n
first-desks configs zero owed none o at = absurd (subst (λ (l : List Owed). In o l) none at)
first-desks configs (suc n) owed some o at = by (first-desks configs n some.0 some.2 o) (in-parts o some.0 (at_desk n some.1) (subst (λ (l : List Owed). In o l) some.4 at))
  where
    by : (In o some.0 → o.desk < n) → In o some.0 ⊎ In o (at_desk n some.1) → o.desk < suc n
    by before (inl earlier) = let less = before earlier in omega (arith, less)
    by before (inr own) =
        let w = map-in (λ (origin : Origin). record { desk = n; origin = origin }) o some.1 own in
        let same : n ≡ o.desk = ap (λ (x : Owed). x.desk) w.2 in
        omega (arith, same)

name-there : (names : List NameRow) (desk : ℕ) → All (λ row. IsName row.name) names → desk < length names → IsName (name_at names desk)
name-there names desk plain less = subst IsName
    (sym (ap (λ (o : Option NameRow). option_map_or (λ (row : NameRow). row.name) o []) (slice_get-get_or names desk (anyone names less) less)))
    (plain desk (anyone names less) less)
  where
    anyone : (rows : List NameRow) → desk < length rows → NameRow
    anyone [] none = absurd (omega (arith, none))
    anyone (row ∷ rows) some = row

pub owed-in-folders : (site : Bases) (configs : List Settings) (owed : List Owed) → AreOwed configs owed → All (λ row. IsName row.name) (names_of configs)
    → (p : RoaPlace) → In p (owed_places site (names_of configs) owed) → IsInFolder site p.0
owed-in-folders site configs owed owes plain p at =
    let w = map-in (owed_place site (names_of configs)) p owed at in
    let less = first-desks configs (length (names_of configs)) owed owes w.0 w.1 in
    subst (λ (q : RoaPlace). IsInFolder site q.0) w.2
    (record { name = name_at (names_of configs) w.0.desk; plain = name-there (names_of configs) w.0.desk plain less; is = refl })

-- ---- folders of what is yielded

pub yield-in-folders : (s : WalkContext) (objects : List Object) (visits : List Visit) → AreAccepted s (content_at objects) visits → AreInFolders s.bases (yield visits)
yield-in-folders s objects visits all one at =
    let w = flat-map-in yielded_by one visits (contains-in one (yield visits) at) in
    by w.0 w.1 w.2
  where
    by : (visit : Visit) → In visit visits → In one (yielded_by visit) → IsInFolder s.bases one.folder
    by (Certificate a) here none = absurd none
    by (Published p) here none = absurd none
    by (Route a uri roa) here some =
        let m = map-in (yielded_of a.cert.uris.folder (roa_asn roa.body)) one (roa_entries roa.body) some in
        let named = route-named s (content_at objects) visits all a uri roa (in-contains (Route a uri roa) visits here) in
        record { name = named.name; plain = named.plain; is = ap (λ (y : Yielded). y.folder) (sym m.2) ∙ named.folder }

-- ---- URIs

stands-in : (places : List RoaPlace) (uri : List ℕ) → stands_at places uri ≡ true → (p : RoaPlace) × In p places × (uri_of p ≡ uri)
stands-in places uri e =
    let w = in-any (λ (other : List ℕ). bytes_eq other uri) (map uri_of places) e in
    let m = map-in uri_of w.0 places w.1 in
    (m.0, m.1, m.2 ∙ (bytes_eq-Decides w.0 uri).0 w.2)

in-stands : (places : List RoaPlace) (p : RoaPlace) (uri : List ℕ) → In p places → uri_of p ≡ uri → stands_at places uri ≡ true
in-stands places p uri at e =
    any-in (λ (other : List ℕ). bytes_eq other uri) (map uri_of places) (uri_of p) (in-map uri_of p places at) ((bytes_eq-Decides (uri_of p) uri).1 e)

off : (b : Bool) → (b ≡ true → ⊥) → b ≡ false
off true never = absurd (never refl)
off false never = refl

module _ (laws : AreOriginLaws) (site : Bases) where
  abbrev AreFine : List RoaPlace → Type 0
  AreFine places = (p : RoaPlace) → In p places → IsInFolder site p.0

  same-origin : (o p : Origin) → o.asn ≡ p.asn → o.prefix.v6 ≡ p.prefix.v6 → o.prefix.address ≡ p.prefix.address → o.prefix.length ≡ p.prefix.length → o.max ≡ p.max → o ≡ p
  same-origin o p asn v6 address long max = laws.origin o p (laws.prefix o.prefix p.prefix v6 address long) max asn

  same-place : (p q : RoaPlace) → IsInFolder site p.0 → IsInFolder site q.0 → uri_of p ≡ uri_of q → p ≡ q
  same-place p q one other e =
      let same : roa_uri site one.name p.1 ≡ roa_uri site other.name q.1 =
      ap (λ (f : List ℕ). f ++ roa_file p.1) (sym one.is) ∙ (e ∙ ap (λ (f : List ℕ). f ++ roa_file q.1) other.is) in
      let parts = laws.apart site one.name other.name p.1 q.1 one.plain other.plain same in
      let folder : p.0 ≡ q.0 = one.is ∙ (ap (folder_of site) parts.0 ∙ sym other.is) in
      ap₂ (λ (f : List ℕ) (o : Origin). (f, o)) folder parts.1

  same-yield : (p q : RoaPlace) → yield_at p ≡ yield_at q → p ≡ q
  same-yield p q e =
      let origin = same-origin p.1 q.1 (ap (λ (y : Yielded). y.asn) e) (ap (λ (y : Yielded). y.entry.v6) e) (ap (λ (y : Yielded). y.entry.address) e)
      (ap (λ (y : Yielded). y.entry.len) e) (ap (λ (y : Yielded). y.entry.max) e) in
      ap₂ (λ (f : List ℕ) (o : Origin). (f, o)) (ap (λ (y : Yielded). y.folder) e) origin

  moves : (ps qs : List RoaPlace) → AreFine ps → AreFine qs → ((uri : List ℕ) → stands_at ps uri ≡ stands_at qs uri) → (one : Yielded)
      → Contains (map yield_at ps) one → Contains (map yield_at qs) one
  moves ps qs ps-fine qs-fine same one at =
      let w = map-in yield_at one ps (contains-in one (map yield_at ps) at) in
      let stands = stands-in qs (uri_of w.0) (sym (same (uri_of w.0)) ∙ in-stands ps w.0 (uri_of w.0) w.1 refl) in
      let is = same-place stands.0 w.0 (qs-fine stands.0 stands.1) (ps-fine w.0 w.1) stands.2 in
      in-contains one (map yield_at qs) (subst (λ (y : Yielded). In y (map yield_at qs)) (ap yield_at is ∙ w.2) (in-map yield_at stands.0 qs stands.1))

  -- In one alone: so is its URI.
  alone : (ps qs : List RoaPlace) → AreFine ps → AreFine qs → (one : Yielded) (uri : List ℕ) → IsRoaUri one uri
      → Contains (map yield_at ps) one → ¬ Contains (map yield_at qs) one → (stands_at ps uri ≡ true) × (stands_at qs uri ≡ false)
  alone ps qs ps-fine qs-fine one uri is at none =
      let w = map-in yield_at one ps (contains-in one (map yield_at ps) at) in
      let e = w.2 in
      let origin = same-origin w.0.1 is.origin (ap (λ (y : Yielded). y.asn) e ∙ is.asn) (ap (λ (y : Yielded). y.entry.v6) e ∙ ap (λ (x : Entry). x.v6) is.entry)
      (ap (λ (y : Yielded). y.entry.address) e ∙ ap (λ (x : Entry). x.address) is.entry) (ap (λ (y : Yielded). y.entry.len) e ∙ ap (λ (x : Entry). x.len) is.entry)
      (ap (λ (y : Yielded). y.entry.max) e ∙ ap (λ (x : Entry). x.max) is.entry) in
      let place : uri_of w.0 ≡ uri = ap₂ (λ (f : List ℕ) (o : Origin). f ++ roa_file o) (ap (λ (y : Yielded). y.folder) e) origin ∙ sym is.is in (
        in-stands ps w.0 uri w.1 place,
        off (stands_at qs uri) (λ stands.
            let q = stands-in qs uri stands in
            let same = same-place q.0 w.0 (qs-fine q.0 q.1) (ps-fine w.0 w.1) (q.2 ∙ sym place) in
            none (in-contains one (map yield_at qs) (subst (λ (y : Yielded). In y (map yield_at qs)) (ap yield_at same ∙ e) (in-map yield_at q.0 qs q.1)))),
      )

  -- Where a URI is in one alone, so is what is yielded there.
  there-alone : (ps qs : List RoaPlace) (uri : List ℕ) → stands_at ps uri ≡ true → stands_at qs uri ≡ false
      → (one : Yielded) × Contains (map yield_at ps) one × (¬ Contains (map yield_at qs) one) × IsRoaUri one uri
  there-alone ps qs uri stands none =
      let p = stands-in ps uri stands in (
        yield_at p.0,
        in-contains (yield_at p.0) (map yield_at ps) (in-map yield_at p.0 ps p.1),
        λ other.
            let q = map-in yield_at (yield_at p.0) qs (contains-in (yield_at p.0) (map yield_at qs) other) in
            let same = same-yield q.0 p.0 q.2 in
            false≢true (sym none ∙ in-stands qs q.0 uri q.1 (ap uri_of same ∙ p.2)),
        record { origin = p.0.1; asn = refl; entry = refl; is = sym p.2 },
      )

  apart-both : (a b : Bool) → a ≡ true → b ≡ false → a ≡ not b
  apart-both a b one other = one ∙ ap not (sym other)

  apart-other : (a b : Bool) → a ≡ false → b ≡ true → a ≡ not b
  apart-other a b one other = one ∙ ap not (sym other)

  module _ (ps qs : List RoaPlace) (ps-fine : AreFine ps) (qs-fine : AreFine qs) where
    pub same-origins : IsOtherPlace ps qs None → AreSameOrigins (map yield_at ps) (map yield_at qs)
    same-origins same one = (moves ps qs ps-fine qs-fine same one, moves qs ps qs-fine ps-fine (λ uri. sym (same uri)) one)

    in-one-stands : (one : Yielded) (uri : List ℕ) → IsRoaUri one uri → IsInOne (map yield_at ps) (map yield_at qs) one → stands_at ps uri ≡ not (stands_at qs uri)
    in-one-stands one uri is (inl here) = let e = alone ps qs ps-fine qs-fine one uri is here.0 here.1 in apart-both (stands_at ps uri) (stands_at qs uri) e.0 e.1
    in-one-stands one uri is (inr there) = let e = alone qs ps qs-fine ps-fine one uri is there.0 there.1 in apart-other (stands_at ps uri) (stands_at qs uri) e.1 e.0

    pub other-origin : (uri : List ℕ) → IsOtherPlace ps qs (Some uri) → IsOtherOrigin (map yield_at ps) (map yield_at qs) uri
    other-origin uri found = by (stands_at ps uri) (stands_at qs uri) refl refl found.0
      where
        by : (a b : Bool) → stands_at ps uri ≡ a → stands_at qs uri ≡ b → stands_at ps uri ≡ not (stands_at qs uri) → IsOtherOrigin (map yield_at ps) (map yield_at qs) uri
        by true false one other e =
            let w = there-alone ps qs uri one other in
            record { one = w.0; in_one = inl (w.1, w.2); at = w.3; least = λ o place in_one is. found.1 place (in-one-stands o place is in_one) }
        by false true one other e =
            let w = there-alone qs ps uri other one in
            record { one = w.0; in_one = inr (w.1, w.2); at = w.3; least = λ o place in_one is. found.1 place (in-one-stands o place is in_one) }
        by true true one other e = absurd (false≢true (ap not (sym other) ∙ (sym e ∙ one)))
        by false false one other e = absurd (false≢true (sym one ∙ (e ∙ ap not other)))

-- ---- what is owed, and what was found

module _ (laws : AreOriginLaws) (site : Bases) (configs : List Settings) (owed : List Owed) (found : List YieldedOrigin) (owes : AreOwed configs owed)
    (plain : All (λ row. IsName row.name) (names_of configs)) (folders : AreInFolders site (yielded_values found)) where
  abbrev ps : List RoaPlace
  ps = owed_places site (names_of configs) owed

  abbrev qs : List RoaPlace
  qs = yielded_places found

  qs-fine : (p : RoaPlace) → In p qs → IsInFolder site p.0
  qs-fine p at = folders (yield_at p) (in-contains (yield_at p) (yielded_values found)
      (subst (λ (l : List Yielded). In (yield_at p) l) (sym (found-yields found)) (in-map yield_at p qs at)))

  ps-fine : (p : RoaPlace) → In p ps → IsInFolder site p.0
  ps-fine = owed-in-folders site configs owed owes plain

  -- By what the calls were given.
  pub owed-told : (names : List NameRow) (rows : List Owed) → names ≡ names_of configs → rows ≡ owed → (o : Option (List ℕ)) → IsOtherPlace (owed_places site names rows) qs o → IsOtherPlace ps qs o
  owed-told names rows same-names same-rows o is =
      subst (λ (ns : List NameRow). IsOtherPlace (owed_places site ns owed) qs o) same-names
      (subst (λ (r : List Owed). IsOtherPlace (owed_places site names r) qs o) same-rows is)

  pub owed-same : IsOtherPlace ps qs None → AreSameOrigins (owed_yield site configs owed) (yielded_values found)
  owed-same none =
      subst (λ (l : List Yielded). AreSameOrigins l (yielded_values found)) (sym (owed-yields site (names_of configs) owed))
      (subst (λ (l : List Yielded). AreSameOrigins (map yield_at ps) l) (sym (found-yields found)) (same-origins laws site ps qs ps-fine qs-fine none))

  pub owed-other : (uri : List ℕ) → IsOtherPlace ps qs (Some uri) → IsOtherOrigin (owed_yield site configs owed) (yielded_values found) uri
  owed-other uri some =
      subst (λ (l : List Yielded). IsOtherOrigin l (yielded_values found) uri) (sym (owed-yields site (names_of configs) owed))
      (subst (λ (l : List Yielded). IsOtherOrigin (map yield_at ps) l uri) (sym (found-yields found)) (other-origin laws site ps qs ps-fine qs-fine uri some))
