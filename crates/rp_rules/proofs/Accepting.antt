-- What the walk visits is accepted, and it visits the files of each point.
use Rattle.std.proofs.Common.{◌≡◌, ℕ, zero, suc, Bool, true, false, List, [], ◌∷◌, ◌++◌, Ok, refl, sym, ap, subst, ◌∙◌, append-nil, append_assoc, ◌⊎◌, inl, inr}
use Rattle.std.specs.Prelude.{if◌then◌else◌, ⊤}
use Rattle.std.specs.List.{Contains}
use Rattle.std.proofs.lemmas.List.Concat.{flat_map-append}
use Rattle.std.proofs.lemmas.List.Elements.{Contains-append_left, Contains-push, Contains-push_cases}
use Rattle.pub_set.specs.declared.objects.Object.{Object}
use Rattle.pub_set.specs.Objects.{content_at}
use Rattle.pub_set.specs.Changes.{Contents}
use Rattle.rp_rules.specs.Checks.{Checked, ◌>>=◌}
use Rattle.rp_rules.specs.Objects.{SignedRoa}
use Rattle.rp_rules.specs.Authorities.{Authority, listed_uri}
use Rattle.rp_rules.specs.Certificates.{WalkContext, File, is_among, accepted_anchor, accepted_authority}
use Rattle.rp_rules.specs.Points.{Point, accepted_point, accepted_roa, other_files, is_certificate_file}
use Rattle.rp_rules.specs.Walk.{Visit, Certificate, Published, Route, Below, uris_of, visited, visit_file, visit_files, visit_below, walk}
use Rattle.rp_rules.specs.Accepted.{IsAccepted, IsVisitedPoint, IsReached, AreAccepted}
use Rattle.rp_rules.specs.Sound.{IsSoundBy}
use Rattle.items.specs.laws.ElementLaws.{none, here, there, first-or-rest}
use Rattle.rp_rules.proofs.Lists.{append-step, among-left, among-right, among-from}
use Rattle.rp_rules.proofs.Kept.{same-ok, bind-ok, IsNew, authority-ok, roa-ok, point-ok}

-- ---- visits one after another

-- Each is accepted after those before it, which are behind these.
abbrev pub AllAfter : WalkContext → Contents → List Visit → List Visit → Type 0
AllAfter s held seen [] = ⊤
AllAfter s held seen (v ∷ visits) = IsAccepted s held seen v × AllAfter s held (seen ++ v ∷ []) visits

and-one : (s : WalkContext) (held : Contents) (seen visits : List Visit) (visit : Visit) → AllAfter s held seen visits → IsAccepted s held (seen ++ visits) visit → AllAfter s held seen (visits ++ visit ∷ [])
and-one s held seen [] visit all one = (subst (λ (vs : List Visit). IsAccepted s held vs visit) (append-nil seen) one, tt)
and-one s held seen (v ∷ visits) visit all one =
    (all.0, and-one s held (seen ++ v ∷ []) visits visit all.1 (subst (λ (vs : List Visit). IsAccepted s held vs visit) (append-step seen v visits) one))

pub at-place : (s : WalkContext) (held : Contents) (seen visits before : List Visit) (visit : Visit) (after : List Visit) → AllAfter s held seen visits → visits ≡ before ++ visit ∷ after → IsAccepted s held (seen ++ before) visit
at-place s held seen visits [] visit after all e =
    let moved : AllAfter s held seen (visit ∷ after) = subst (λ (vs : List Visit). AllAfter s held seen vs) e all in
    subst (λ (vs : List Visit). IsAccepted s held vs visit) (sym (append-nil seen)) moved.0
at-place s held seen visits (b ∷ before) visit after all e =
    let moved : AllAfter s held seen (b ∷ (before ++ visit ∷ after)) = subst (λ (vs : List Visit). AllAfter s held seen vs) e all in
    subst (λ (vs : List Visit). IsAccepted s held vs visit) (sym (append-step seen b before))
    (at-place s held (seen ++ b ∷ []) (before ++ visit ∷ after) before visit after moved.1 refl)

-- ---- what is visited stays visited

still-among : (visits more : List Visit) (uri : List ℕ) → is_among (visited visits) uri ≡ true → is_among (visited (visits ++ more)) uri ≡ true
still-among visits more uri e = ap (λ us. is_among us uri) (flat_map-append uris_of visits more) ∙ among-left (visited visits) (visited more) uri e

pub pushed-among : (visits : List Visit) (visit : Visit) (uri : List ℕ) → is_among (uris_of visit) uri ≡ true → is_among (visited (visits ++ visit ∷ [])) uri ≡ true
pushed-among visits visit uri e = ap (λ us. is_among us uri) (flat_map-append uris_of visits (visit ∷ [])) ∙ among-right (visited visits) (visited (visit ∷ [])) uri (among-left (uris_of visit) [] uri e)

reached-still : (held : Contents) (visits more : List Visit) (p : Point) (file : File) → IsReached held visits p file → IsReached held (visits ++ more) p file
reached-still held visits more p file r = record { bytes = r.bytes; there = r.there; hash = r.hash; reached = still-among visits more (listed_uri p.authority file.0) r.reached }

abbrev pub AllReached : Contents → List Visit → Point → List File → Type 0
AllReached held visits p files = (file : File) → Contains files file → IsReached held visits p file

-- The walk goes from these visits on to those: they begin with these, each is accepted, and the
-- files of each point that it comes to are visited.
pub record Goes (s : WalkContext) (held : Contents) (start others : List Visit) : Type 0 where
  pub more : List Visit
  pub grown : others ≡ start ++ more
  pub accepted : AllAfter s held [] others
  pub covered : (p : Point) → Contains others (Published p) → Contains start (Published p) ⊎ AllReached held others p (other_files p)

goes-contains : (s : WalkContext) (held : Contents) (start others : List Visit) (visit : Visit) → Goes s held start others → Contains start visit → Contains others visit
goes-contains s held start others visit g c = subst (λ (vs : List Visit). Contains vs visit) (sym g.grown) (Contains-append_left start g.more visit c)

goes-reached : (s : WalkContext) (held : Contents) (start others : List Visit) (p : Point) (file : File) → Goes s held start others → IsReached held start p file → IsReached held others p file
goes-reached s held start others p file g r = subst (λ (vs : List Visit). IsReached held vs p file) (sym g.grown) (reached-still held start g.more p file r)

goes-nowhere : (s : WalkContext) (held : Contents) (start : List Visit) → AllAfter s held [] start → Goes s held start start
goes-nowhere s held start all = record { more = []; grown = sym (append-nil start); accepted = all; covered = λ p c. inl c }

goes-on : (s : WalkContext) (held : Contents) (a b c : List Visit) → Goes s held a b → Goes s held b c → Goes s held a c
goes-on s held a b c one two = record {
  more = one.more ++ two.more;
  grown = two.grown ∙ ap (λ (vs : List Visit). vs ++ two.more) one.grown ∙ append_assoc a one.more two.more;
  accepted = two.accepted;
  covered = λ p known. elim (two.covered p known) [
    | inl before ↦ elim (one.covered p before) [
      | inl start ↦ inl start
      | inr files ↦ inr (λ file listed. goes-reached s held b c p file two (files file listed))
    ]
    | inr files ↦ inr files
  ];
}

-- One visit more, of no point.
goes-one : (s : WalkContext) (held : Contents) (start : List Visit) (visit : Visit) → AllAfter s held [] start → IsAccepted s held start visit → ((p : Point) → visit ≡ Published p → ⊥) → Goes s held start (start ++ visit ∷ [])
goes-one s held start visit all one other = record {
  more = visit ∷ [];
  grown = refl;
  accepted = and-one s held [] start visit all one;
  covered = λ p known. elim (Contains-push_cases start visit (Published p) known) [
    | inl before ↦ inl before
    | inr same ↦ absurd (other p same)
  ];
}

same-point : (p q : Point) → Published p ≡ Published q → p ≡ q
same-point p q e = cc

no-point : (a : Authority) (p : Point) → Certificate a ≡ Published p → ⊥
no-point a p e = cc

-- A point, and its files.
goes-point : (s : WalkContext) (held : Contents) (start : List Visit) (p : Point) (others : List Visit) → Goes s held (start ++ Published p ∷ []) others → AllReached held others p (other_files p) → Goes s held start others
goes-point s held start p others g files = record {
  more = Published p ∷ [] ++ g.more;
  grown = g.grown ∙ append_assoc start (Published p ∷ []) g.more;
  accepted = g.accepted;
  covered = λ q known. elim (g.covered q known) [
    | inl before ↦ elim (Contains-push_cases start (Published p) (Published q) before) [
      | inl first ↦ inl first
      | inr same ↦ inr (subst (λ (r : Point). AllReached held others r (other_files r)) (same-point p q same) files)
    ]
    | inr others ↦ inr others
  ];
}

-- ---- the walk

abbrev Keeps : WalkContext → Contents → List Visit → Checked (List Visit) → Type 0
Keeps s held start m = (others : List Visit) → m ≡ Ok others → Goes s held start others

abbrev KeepsBelow : WalkContext → Contents → Below → Type 0
KeepsBelow s held below = (authority : Authority) (visits : List Visit) → AllAfter s held [] visits → Contains visits (Certificate authority) → Keeps s held visits (below authority visits)

abbrev KeepsFile : WalkContext → Contents → List Visit → Point → File → Checked (List Visit) → Type 0
KeepsFile s held start p file m = (others : List Visit) → m ≡ Ok others → Goes s held start others × IsReached held others p file

either-keeps : (s : WalkContext) (held : Contents) (start : List Visit) (p : Point) (file : File) (b : Bool) (m n : Checked (List Visit))
    → (b ≡ true → KeepsFile s held start p file m) → (b ≡ false → KeepsFile s held start p file n) → KeepsFile s held start p file (if b then m else n)
either-keeps s held start p file true m n one other = one refl
either-keeps s held start p file false m n one other = other refl

file-reached : (held : Contents) (visits : List Visit) (visit : Visit) (p : Point) (file : File) → IsNew held (visited visits) (listed_uri p.authority file.0) file → is_among (uris_of visit) (listed_uri p.authority file.0) ≡ true → IsReached held (visits ++ visit ∷ []) p file
file-reached held visits visit p file new e = record { bytes = new.bytes; there = new.there; hash = new.hash; reached = pushed-among visits visit (listed_uri p.authority file.0) e }

one-uri : (uri other : List ℕ) → uri ≡ other → is_among (uri ∷ []) other ≡ true
one-uri uri other e = among-from (uri ∷ []) other (subst (λ (u : List ℕ). Contains (uri ∷ []) u) e (here uri []))

certificate-keeps : (s : WalkContext) (held : Contents) (below : Below) (p : Point) (file : File) (visits : List Visit) → KeepsBelow s held below → AllAfter s held [] visits → Contains visits (Published p) → Contains (other_files p) file → is_certificate_file file ≡ true
    → KeepsFile s held visits p file (accepted_authority s held p.authority p.crl.entries (visited visits) file >>= (λ child. below child (visits ++ Certificate child ∷ [])))
certificate-keeps s held below p file visits goes all known listed kind others e =
    let child = bind-ok (accepted_authority s held p.authority p.crl.entries (visited visits) file) (λ a. below a (visits ++ Certificate a ∷ [])) others e in
    let one : IsAccepted s held visits (Certificate child.0) = inr (record { issuer = p; known = known; file = file; listed = listed; kind = kind; accepted = child.1 }) in
    let kept = authority-ok s held p.authority p.crl.entries (visited visits) file child.0 child.1 in
    let first = goes-one s held visits (Certificate child.0) all one (no-point child.0) in
    let rest = goes child.0 (visits ++ Certificate child.0 ∷ []) first.accepted (Contains-push visits (Certificate child.0)) others child.2 in
    let there = file-reached held visits (Certificate child.0) p file kept.0 (one-uri child.0.uri (listed_uri p.authority file.0) kept.1) in
    (goes-on s held visits (visits ++ Certificate child.0 ∷ []) others first rest, goes-reached s held (visits ++ Certificate child.0 ∷ []) others p file rest there)

no-route : (a : Authority) (uri : List ℕ) (roa : SignedRoa) (p : Point) → Route a uri roa ≡ Published p → ⊥
no-route a uri roa p e = cc

roa-keeps : (s : WalkContext) (held : Contents) (p : Point) (file : File) (visits : List Visit) → AllAfter s held [] visits → Contains visits (Published p) → Contains (other_files p) file → is_certificate_file file ≡ false
    → KeepsFile s held visits p file (accepted_roa s held p (visited visits) file >>= (λ roa. Ok (visits ++ Route p.authority (listed_uri p.authority file.0) roa ∷ [])))
roa-keeps s held p file visits all known listed kind others e =
    let uri = listed_uri p.authority file.0 in
    let roa = bind-ok (accepted_roa s held p (visited visits) file) (λ r. Ok (visits ++ Route p.authority (listed_uri p.authority file.0) r ∷ [])) others e in
    let visit : Visit = Route p.authority uri roa.0 in
    let one : IsAccepted s held visits visit = record { issuer = p; known = known; above = refl; file = file; listed = listed; kind = kind; there = refl; accepted = roa.1 } in
    let new = roa-ok s held p (visited visits) file roa.0 roa.1 in
    let both : Goes s held visits (visits ++ visit ∷ []) × IsReached held (visits ++ visit ∷ []) p file =
    (goes-one s held visits visit all one (no-route p.authority uri roa.0), file-reached held visits visit p file new (one-uri uri uri refl)) in
    subst (λ (vs : List Visit). Goes s held visits vs × IsReached held vs p file) (same-ok (visits ++ visit ∷ []) others (Ok (visits ++ visit ∷ [])) refl roa.2) both

file-keeps : (s : WalkContext) (held : Contents) (below : Below) (p : Point) (file : File) (visits : List Visit) → KeepsBelow s held below → AllAfter s held [] visits → Contains visits (Published p) → Contains (other_files p) file → KeepsFile s held visits p file (visit_file s held below p file visits)
unfolding visit_file
file-keeps s held below p file visits goes all known listed =
    either-keeps s held visits p file (is_certificate_file file)
    (accepted_authority s held p.authority p.crl.entries (visited visits) file >>= (λ child. below child (visits ++ Certificate child ∷ [])))
    (accepted_roa s held p (visited visits) file >>= (λ roa. Ok (visits ++ Route p.authority (listed_uri p.authority file.0) roa ∷ [])))
    (certificate-keeps s held below p file visits goes all known listed) (roa-keeps s held p file visits all known listed)

files-keep : (s : WalkContext) (held : Contents) (below : Below) (p : Point) (files : List File) (visits : List Visit) → KeepsBelow s held below → AllAfter s held [] visits → Contains visits (Published p)
    → ((file : File) → Contains files file → Contains (other_files p) file)
    → (others : List Visit) → visit_files s held below p files visits ≡ Ok others → Goes s held visits others × AllReached held others p files
unfolding visit_files
files-keep s held below p [] visits goes all known part others e =
    (subst (λ (vs : List Visit). Goes s held visits vs) (same-ok visits others (Ok visits) refl e) (goes-nowhere s held visits all), λ file c. absurd (none file c))
files-keep s held below p (file ∷ files) visits goes all known part others e =
    let next = bind-ok (visit_file s held below p file visits) (visit_files s held below p files) others e in
    let one = file-keeps s held below p file visits goes all known (part file (here file files)) next.0 next.1 in
    let rest = files-keep s held below p files next.0 goes one.0.accepted (goes-contains s held visits next.0 (Published p) one.0 known) (λ f c. part f (there file files f c)) others next.2 in (
      goes-on s held visits next.0 others one.0 rest.0,
      λ f c. elim (first-or-rest file files f c) [
        | inl same ↦ subst (λ (g : File). IsReached held others p g) same (goes-reached s held next.0 others p file rest.0 one.1)
        | inr later ↦ rest.1 f later
      ],
    )

below-keeps : (levels : ℕ) (s : WalkContext) (held : Contents) → KeepsBelow s held (visit_below levels s held)
unfolding visit_below
below-keeps zero s held authority visits all known others e = absurd cc
below-keeps (suc levels) s held authority visits all known others e =
    let p = bind-ok (accepted_point s held authority (visited visits)) (λ q. visit_files s held (visit_below levels s held) q (other_files q) (visits ++ Published q ∷ [])) others e in
    let is = point-ok s held authority (visited visits) p.0 p.1 in
    let one : IsVisitedPoint s held visits p.0 = record {
      known = subst (λ (a : Authority). Contains visits (Certificate a)) (sym is.above) known;
      accepted = subst (λ (a : Authority). accepted_point s held a (visited visits) ≡ Ok p.0) (sym is.above) p.1;
    } in
    let files = files-keep s held (visit_below levels s held) p.0 (other_files p.0) (visits ++ Published p.0 ∷ []) (below-keeps levels s held)
    (and-one s held [] visits (Published p.0) all one) (Contains-push visits (Published p.0)) (λ file c. c) others p.2 in
    goes-point s held visits p.0 others files.0 files.1

pub walk-goes : (s : WalkContext) (held : Contents) (visits : List Visit) → walk s held ≡ Ok visits → (anchor : Authority) × Goes s held (Certificate anchor ∷ []) visits
unfolding walk
walk-goes s held visits e =
    let anchor = bind-ok (accepted_anchor s held) (λ a. visit_below 65 s held a (Certificate a ∷ [])) visits e in
    (anchor.0, below-keeps 65 s held anchor.0 (Certificate anchor.0 ∷ []) (inl (refl, anchor.1), tt) (here (Certificate anchor.0) []) visits anchor.2)

pub all_accepted : (s : WalkContext) (objects : List Object) (visits : List Visit) → IsSoundBy s objects visits → AreAccepted s (content_at objects) visits
all_accepted s objects visits sound before visit after e =
    at-place s (content_at objects) [] visits before visit after (walk-goes s (content_at objects) visits sound.walk).1.accepted e
