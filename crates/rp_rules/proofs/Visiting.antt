-- A sound set: each URI is visited once, and each file that a visited point lists is visited.
use Rattle.std.proofs.Common.{◌≡◌, ℕ, ◌==◌, Bool, true, false, List, [], ◌∷◌, ◌++◌, length, not, Option, Some, refl, sym, ap, subst, ◌∙◌, arith, eqb-true, append-nil, inl, inr}
use Rattle.std.specs.List.{Contains, filter}
use Rattle.std.proofs.lemmas.List.Concat.{flat_map-append}
use Rattle.std.proofs.lemmas.Bool.{and_parts}
use Rattle.std.proofs.lemmas.List.Elements.{Contains-append_right}
use Rattle.pub_set.specs.declared.objects.Object.{Object}
use Rattle.pub_set.specs.Objects.{content_at}
use Rattle.pub_set.specs.Changes.{Contents}
use Rattle.rp_rules.specs.Objects.{SignedRoa}
use Rattle.rp_rules.specs.Authorities.{Authority, listed_uri, crl_uri_of, manifest_place}
use Rattle.rp_rules.specs.Certificates.{WalkContext, File, is_among}
use Rattle.rp_rules.specs.Points.{Point, are_distinct, is_crl_file, first_of, files_of}
use Rattle.rp_rules.specs.Walk.{Visit, Certificate, Published, Route, uris_of, visited}
use Rattle.rp_rules.specs.Accepted.{IsAccepted, IsVisitedPoint, IsRoute, IsReached}
use Rattle.rp_rules.specs.Sound.{IsSoundBy}
use Rattle.items.specs.laws.ElementLaws.{none, here, there, first-or-rest, into-filter}
use Rattle.rp_rules.proofs.Lists.{split, append-step, among-from, distinct-push}
use Rattle.rp_rules.proofs.Kept.{authority-ok, roa-ok, point-ok}
use Rattle.rp_rules.proofs.Accepting.{AllAfter, Goes, at-place, walk-goes}

-- ---- each URI once

abbrev AreOnce : List Visit → Type 0
AreOnce visits = are_distinct (visited visits) ≡ true

-- One URI more.
once-uri : (seen : List Visit) (visit : Visit) (uri : List ℕ) → visited (visit ∷ []) ≡ uri ∷ [] → AreOnce seen → is_among (visited seen) uri ≡ false → AreOnce (seen ++ visit ∷ [])
once-uri seen visit uri is once new =
    ap are_distinct (flat_map-append uris_of seen (visit ∷ []) ∙ ap (λ (us : List (List ℕ)). visited seen ++ us) is) ∙ distinct-push (visited seen) uri once new

once-certificate : (s : WalkContext) (held : Contents) (seen : List Visit) (a : Authority) → IsAccepted s held seen (Certificate a) → AreOnce seen → AreOnce (seen ++ Certificate a ∷ [])
once-certificate s held seen a (inl first) once = subst (λ (vs : List Visit). AreOnce (vs ++ Certificate a ∷ [])) (sym first.0) refl
once-certificate s held seen a (inr l) once =
    let kept = authority-ok s held l.issuer.authority l.issuer.crl.entries (visited seen) l.file a l.accepted in
    once-uri seen (Certificate a) (listed_uri l.issuer.authority l.file.0) (ap (λ (u : List ℕ). u ∷ []) kept.1) once kept.0.new

once-route : (s : WalkContext) (held : Contents) (seen : List Visit) (a : Authority) (uri : List ℕ) (roa : SignedRoa) → IsRoute s held seen a uri roa → AreOnce seen → AreOnce (seen ++ Route a uri roa ∷ [])
once-route s held seen a uri roa r once =
    let new = roa-ok s held r.issuer (visited seen) r.file roa r.accepted in
    let place : listed_uri r.issuer.authority r.file.0 ≡ uri = ap (λ (b : Authority). listed_uri b r.file.0) r.above ∙ r.there in
    once-uri seen (Route a uri roa) uri refl once (subst (λ (u : List ℕ). is_among (visited seen) u ≡ false) place new.new)

once-point : (s : WalkContext) (held : Contents) (seen : List Visit) (p : Point) → IsVisitedPoint s held seen p → AreOnce seen → AreOnce (seen ++ Published p ∷ [])
once-point s held seen p published once =
    let is = point-ok s held p.authority (visited seen) p published.accepted in
    let manifest = manifest_place p.authority in
    let first = distinct-push (visited seen) manifest once is.new in
    let new : is_among (visited seen ++ manifest ∷ []) (crl_uri_of p.authority) ≡ false = subst (λ (u : List ℕ). is_among (visited seen ++ manifest ∷ []) u ≡ false) is.place is.crl.new in
    ap are_distinct (flat_map-append uris_of seen (Published p ∷ []) ∙ append-step (visited seen) manifest (crl_uri_of p.authority ∷ [])) ∙ distinct-push (visited seen ++ manifest ∷ []) (crl_uri_of p.authority) first new

once-visit : (s : WalkContext) (held : Contents) (seen : List Visit) (visit : Visit) → IsAccepted s held seen visit → AreOnce seen → AreOnce (seen ++ visit ∷ [])
once-visit s held seen (Certificate a) accepted once = once-certificate s held seen a accepted once
once-visit s held seen (Published p) accepted once = once-point s held seen p accepted once
once-visit s held seen (Route a uri roa) accepted once = once-route s held seen a uri roa accepted once

once-after : (s : WalkContext) (held : Contents) (seen visits : List Visit) → AllAfter s held seen visits → AreOnce seen → AreOnce (seen ++ visits)
once-after s held seen [] all once = subst (λ (vs : List Visit). AreOnce vs) (sym (append-nil seen)) once
once-after s held seen (v ∷ visits) all once =
    subst (λ (vs : List Visit). AreOnce vs) (sym (append-step seen v visits)) (once-after s held (seen ++ v ∷ []) visits all.1 (once-visit s held seen v all.0 once))

pub visited_once : (s : WalkContext) (objects : List Object) (visits : List Visit) → IsSoundBy s objects visits → are_distinct (visited visits) ≡ true
visited_once s objects visits sound = once-after s (content_at objects) [] visits (walk-goes s (content_at objects) visits sound.walk).1.accepted refl

-- ---- the files of a point

same-some : (f g : File) (o : Option File) → o ≡ Some f → o ≡ Some g → f ≡ g
same-some f g o one other = cc

only-one : (xs : List File) (file f : File) → (length xs == 1) ≡ true → Contains xs file → first_of xs ≡ Some f → f ≡ file
only-one [] file f one c e = absurd (none file c)
only-one (x ∷ []) file f one c e = elim (first-or-rest x [] file c) [
  | inl same ↦ same-some f x (Some x) e refl ∙ same
  | inr nothing ↦ absurd (none file nothing)
]
only-one (x ∷ y ∷ zs) file f one c e = absurd (let two = eqb-true (length (x ∷ y ∷ zs)) 1 one in omega (arith, two))

crl-among : (visits : List Visit) (p : Point) → Contains visits (Published p) → is_among (visited visits) (crl_uri_of p.authority) ≡ true
crl-among visits p known = let s = split visits (Published p) known in
    among-from (visited visits) (crl_uri_of p.authority) (subst (λ (vs : List Visit). Contains (visited vs) (crl_uri_of p.authority)) (sym s.whole) (inside s.before s.after))
  where
    inside : (before after : List Visit) → Contains (visited (before ++ Published p ∷ after)) (crl_uri_of p.authority)
    inside [] after = there (manifest_place p.authority) (crl_uri_of p.authority ∷ visited after) (crl_uri_of p.authority) (here (crl_uri_of p.authority) (visited after))
    inside (v ∷ before) after = Contains-append_right (uris_of v) (visited (before ++ Published p ∷ after)) (crl_uri_of p.authority) (inside before after)

crl-reached : (s : WalkContext) (held : Contents) (visits : List Visit) (p : Point) (file : File) → AllAfter s held [] visits → Contains visits (Published p) → Contains (files_of p.manifest.body) file → is_crl_file file ≡ true → IsReached held visits p file
crl-reached s held visits p file all known listed crl =
    let at = split visits (Published p) known in
    let published : IsVisitedPoint s held at.before p = at-place s held [] visits at.before (Published p) at.after all at.whole in
    let is = point-ok s held p.authority (visited at.before) p published.accepted in
    let list = (and_parts _ _ (and_parts _ _ (and_parts _ _ is.list).0).0).0 in
    let same : is.file ≡ file = only-one (filter is_crl_file (files_of p.manifest.body)) file is.file list (into-filter is_crl_file (files_of p.manifest.body) file crl listed) is.first in
    subst (λ (f : File). IsReached held visits p f) same (record {
      bytes = is.crl.bytes;
      there = is.crl.there;
      hash = is.crl.hash;
      reached = subst (λ (u : List ℕ). is_among (visited visits) u ≡ true) (sym is.place) (crl-among visits p known);
    })

no-points : (a : Authority) (p : Point) → Contains (Certificate a ∷ []) (Published p) → ⊥
no-points a p c = elim (first-or-rest (Certificate a) [] (Published p) c) [
  | inl same ↦ clash same
  | inr nothing ↦ none (Published p) nothing
]
  where
    clash : Certificate a ≡ Published p → ⊥
    clash e = cc

other-reached : (s : WalkContext) (held : Contents) (visits : List Visit) (p : Point) (file : File) (anchor : Authority) → Goes s held (Certificate anchor ∷ []) visits → Contains visits (Published p) → Contains (files_of p.manifest.body) file → is_crl_file file ≡ false → IsReached held visits p file
other-reached s held visits p file anchor goes known listed crl = elim (goes.covered p known) [
  | inl start ↦ absurd (no-points anchor p start)
  | inr files ↦ files file (into-filter (λ (f : File). not (is_crl_file f)) (files_of p.manifest.body) file (ap not crl) listed)
]

pub listed_reached : (s : WalkContext) (objects : List Object) (visits : List Visit) (p : Point) (file : File) → IsSoundBy s objects visits → Contains visits (Published p) → Contains (files_of p.manifest.body) file → IsReached (content_at objects) visits p file
listed_reached s objects visits p file sound known listed = by-kind (is_crl_file file) refl
  where
    by-kind : (b : Bool) → is_crl_file file ≡ b → IsReached (content_at objects) visits p file
    by-kind true e = crl-reached s (content_at objects) visits p file (walk-goes s (content_at objects) visits sound.walk).1.accepted known listed e
    by-kind false e = let w = walk-goes s (content_at objects) visits sound.walk in other-reached s (content_at objects) visits p file w.0 w.1 known listed e
