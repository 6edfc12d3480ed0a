-- The walk, and what is noted of it.
use Rattle.std.proofs.Common.{◌≡◌, ℕ, ◌+◌, zero, suc, ◌<◌, List, [], ◌∷◌, ◌++◌, Bool, true, false, Option, None, Some, Result, Ok, Err, length, map, drop, get_or, refl, sym, ap, subst, ◌∙◌, append_assoc, sub-one, arith, ◌-◌, ◌≤◌, set}
use Rattle.std.specs.Prelude.{if◌then◌else◌, not, max}
use Rattle.std.specs.List.{flat_map, filter, fold, find, list_all}
use Rattle.std.specs.Str.{bytes_eq}
use Rattle.std.proofs.lemmas.Grind.{flat_map-append}
use Rattle.std.proofs.lemmas.List.{map-append}
use Rattle.pub_set.specs.declared.objects.Object.{Object}
use Rattle.pub_set.specs.Changes.{Contents}
use Rattle.crl_obj.specs.declared.values.CrlEntry.{CrlEntry}
use Rattle.rp_rules.specs.declared.rules.Rule.TheVariants as rule
use Rattle.rp_rules.specs.Checks.{Refused as Refusal, Checked, ◌>>=◌, refused, tested, found}
use Rattle.rp_rules.specs.Objects.{SignedRoa, certificate_in, roa_in, such, is_authoritys}
use Rattle.rp_rules.specs.Authorities.{Authority, listed_uri, crl_uri_of, manifest_place}
use Rattle.rp_rules.specs.Certificates.{WalkContext, File, is_among, listed_bytes, accepted_authority, authority_tests, authority_of}
use Rattle.rp_rules.specs.Points.{Point, is_certificate_file, is_crl_file, files_of, other_files, accepted_point, accepted_roa}
use Rattle.rp_rules.specs.Walk.{Visit, Certificate, Published, Route, Below, uris_of, visited, visit_file, visit_files, visit_below, walk}
use Rattle.rp_rules.specs.Yield.{PointValue, yielded_by, yield, point_of, point_value, points, serial_in, listed_serial, own_serial, greatest_serial}
use Rattle.rp_rules.specs.declared.audited.AuditedPoint.{AuditedPoint}
use Rattle.rp_rules.specs.Views.{yielded_values, point_values, point_value as value_of}
use Rattle.rp_audit.specs.declared.visited_uris.VisitedUris.{VisitedUris}
use Rattle.rp_audit.specs.declared.noted.Noted.{Noted}
use Rattle.rp_audit.specs.inner.Noted.{Sees, Notes, WalkContinues, VisitsFile, VisitsFiles, IsWalk, open_point, closed, visit_authority, visit_roa}
use Rattle.rp_audit.proofs.Checking.{bind_ok, bind_err}

pub append_nil : {A : Type 0} (xs : List A) → xs ++ [] ≡ xs
append_nil [] = refl
append_nil (x ∷ xs) = ap (λ ys. x ∷ ys) (append_nil xs)

-- ---- what is noted, one after another

abbrev SeesAll : List Visit → Noted → Type 0
SeesAll visits noted = Sees (visited visits) noted.visited_uris

pub notes_then : (held : Contents) (visits a b : List Visit) (old mid new : Noted) → Notes held visits a old mid → Notes held (visits ++ a) b mid new → Notes held visits (a ++ b) old new
notes_then held visits a b old mid new one other = record {
  uris = λ s. subst (λ (vs : List Visit). SeesAll vs new) (append_assoc visits a b) (other.uris (one.uris s));
  yielded = other.yielded ∙ (ap (λ xs. xs ++ yield b) one.yielded ∙ (append_assoc (yielded_values old.origins.items) (yield a) (yield b) ∙ ap (λ xs. yielded_values old.origins.items ++ xs) (sym (flat_map-append yielded_by a b))));
  listed = other.listed ∙ (ap (λ xs. xs ++ points held b) one.listed ∙ (append_assoc (point_values old.points.items) (points held a) (points held b) ∙ ap (λ xs. point_values old.points.items ++ xs) (sym (flat_map-append (point_of held) a b))));
}

goes_then : (held : Contents) (visits : List Visit) (old mid new : Noted) (m : Checked (List Visit)) (f : List Visit → Checked (List Visit)) (one : WalkContinues held visits old mid m)
    → WalkContinues held (visits ++ one.added) mid new (f (visits ++ one.added)) → WalkContinues held visits old new (m >>= f)
goes_then held visits old mid new m f one other = record {
  added = one.added ++ other.added;
  comes = bind_ok m f (visits ++ one.added) one.comes ∙ (other.comes ∙ ap (λ (vs : List Visit). let r : Checked (List Visit) = Ok vs in r) (append_assoc visits one.added other.added));
  notes = notes_then held visits one.added other.added old mid new one.notes other.notes;
}

pub goes_same : (held : Contents) (visits : List Visit) (old new : Noted) (m n : Checked (List Visit)) → m ≡ n → WalkContinues held visits old new n → WalkContinues held visits old new m
goes_same held visits old new m n e goes = subst (λ (k : Checked (List Visit)). WalkContinues held visits old new k) (sym e) goes

visited_more : (visits : List Visit) (visit : Visit) → visited (visits ++ visit ∷ []) ≡ visited visits ++ (uris_of visit ++ [])
visited_more visits visit = flat_map-append uris_of visits (visit ∷ [])

-- A certificate is noted by its URI.
pub certificate_notes : (held : Contents) (visits : List Visit) (child : Authority) (old new : Noted) → new.origins ≡ old.origins → new.points ≡ old.points
    → (Sees (visited visits) old.visited_uris → Sees (visited visits ++ child.uri ∷ []) new.visited_uris) → Notes held visits (Certificate child ∷ []) old new
certificate_notes held visits child old new origins points_ visited_uris = record {
  uris = λ s. subst (λ (us : List (List ℕ)). Sees us new.visited_uris) (sym (visited_more visits (Certificate child))) (visited_uris s);
  yielded = ap (λ xs. yielded_values xs.items) origins ∙ sym (append_nil (yielded_values old.origins.items));
  listed = ap (λ xs. point_values xs.items) points_ ∙ sym (append_nil (point_values old.points.items));
}

pub authority_goes : (held : Contents) (visits : List Visit) (old mid new : Noted) (m : Checked Authority) (below : Below) (child : Authority) → m ≡ Ok child
    → Notes held visits (Certificate child ∷ []) old mid → WalkContinues held (visits ++ Certificate child ∷ []) mid new (below child (visits ++ Certificate child ∷ []))
    → WalkContinues held visits old new (m >>= (λ a. below a (visits ++ Certificate a ∷ [])))
authority_goes held visits old mid new m below child is one other =
    let first : WalkContinues held visits old mid (let r : Checked (List Visit) = Ok (visits ++ Certificate child ∷ []) in r) = record { added = Certificate child ∷ []; comes = refl; notes = one } in
    goes_same held visits old new (m >>= (λ a. below a (visits ++ Certificate a ∷ []))) (below child (visits ++ Certificate child ∷ []))
    (bind_ok m (λ a. below a (visits ++ Certificate a ∷ [])) child is)
    (goes_then held visits old mid new (Ok (visits ++ Certificate child ∷ [])) (below child) first other)

pub roa_goes : (held : Contents) (visits : List Visit) (old new : Noted) (m : Checked SignedRoa) (a : Authority) (uri : List ℕ) (roa : SignedRoa) → m ≡ Ok roa
    → Notes held visits (Route a uri roa ∷ []) old new → WalkContinues held visits old new (m >>= (λ r. Ok (visits ++ Route a uri r ∷ [])))
roa_goes held visits old new m a uri roa is notes = record {
  added = Route a uri roa ∷ [];
  comes = bind_ok m (λ r. Ok (visits ++ Route a uri r ∷ [])) roa is;
  notes = notes;
}

-- ---- serials

-- ---- points

closed_at : (xs : List PointValue) (x : PointValue) (ys : List PointValue) (serial : ℕ) → closed (length xs) serial (xs ++ x ∷ ys) ≡ xs ++ record x { greatest_serial = serial } ∷ ys
closed_at [] x ys serial = refl
closed_at (y ∷ xs) x ys serial = ap (λ zs. y ∷ zs) (closed_at xs x ys serial)

cons_after : {A : Type 0} (xs : List A) (x : A) (ys : List A) → (xs ++ x ∷ []) ++ ys ≡ xs ++ x ∷ ys
cons_after [] x ys = refl
cons_after (y ∷ xs) x ys = ap (λ zs. y ∷ zs) (cons_after xs x ys)

-- What is noted of a point.
pub record Opens (visits : List Visit) (p : Point) (old new : Noted) : Type 0 where
  pub uris : Sees (visited visits) old.visited_uris → Sees (visited (visits ++ Published p ∷ [])) new.visited_uris
  pub origins : new.origins.items ≡ old.origins.items
  pub listed : point_values new.points.items ≡ point_values old.points.items ++ open_point p ∷ []

pub record Closes (place serial : ℕ) (old new : Noted) : Type 0 where
  pub visited_uris : new.visited_uris ≡ old.visited_uris
  pub origins : new.origins ≡ old.origins
  pub listed : point_values new.points.items ≡ closed place serial (point_values old.points.items)

point_notes : (held : Contents) (visits added : List Visit) (p : Point) (place : ℕ) (n0 n1 n2 n3 : Noted) → place ≡ length (point_values n0.points.items)
    → Opens visits p n0 n1 → Notes held (visits ++ Published p ∷ []) added n1 n2 → Closes place (greatest_serial held p) n2 n3 → Notes held visits (Published p ∷ added) n0 n3
point_notes held visits added p place n0 n1 n2 n3 at opens goes closes = record {
  uris = λ s. rw closes.visited_uris (subst (λ (vs : List Visit). SeesAll vs n2) (cons_after visits (Published p) added) (goes.uris (opens.uris s)));
  yielded = ap (λ xs. yielded_values xs.items) closes.origins ∙ (goes.yielded ∙ ap (λ xs. yielded_values xs ++ yield added) opens.origins);
  listed =
      let before = point_values n0.points.items in
      let two : point_values n2.points.items ≡ before ++ open_point p ∷ points held added =
      goes.listed ∙ (ap (λ xs. xs ++ points held added) opens.listed ∙ cons_after before (open_point p) (points held added)) in
      closes.listed ∙ (ap (λ xs. closed place (greatest_serial held p) xs) two
      ∙ (ap (λ (k : ℕ). closed k (greatest_serial held p) (before ++ open_point p ∷ points held added)) at
      ∙ closed_at before (open_point p) (points held added) (greatest_serial held p)));
}

pub point_goes : (levels : ℕ) (s : WalkContext) (held : Contents) (a : Authority) (visits : List Visit) (p : Point) (place serial : ℕ) (n0 n1 n2 n3 : Noted) → (levels ≡ 0 → ⊥)
    → accepted_point s held a (visited visits) ≡ Ok p → place ≡ length (point_values n0.points.items) → Opens visits p n0 n1
    → VisitsFiles held p (visits ++ Published p ∷ []) n1 n2 serial (visit_files s held (visit_below (levels - 1) s held) p (other_files p) (visits ++ Published p ∷ []))
    → Closes place serial n2 n3 → WalkContinues held visits n0 n3 (visit_below levels s held a visits)
unfolding visit_below
point_goes zero s held a visits p place serial n0 n1 n2 n3 some is at opens files closes = absurd (some refl)
point_goes (suc levels) s held a visits p place serial n0 n1 n2 n3 some is at opens files closes =
    let f = λ (q : Point). visit_files s held (visit_below levels s held) q (other_files q) (visits ++ Published q ∷ []) in
    let below : visit_below (suc levels) s held a visits ≡ f p = bind_ok (accepted_point s held a (visited visits)) f p is in
    let rest : WalkContinues held (visits ++ Published p ∷ []) n1 n2 (f p) = rw sub-one at files.goes in
    record {
      added = Published p ∷ rest.added;
      comes = below ∙ (rest.comes ∙ ap (λ (vs : List Visit). let r : Checked (List Visit) = Ok vs in r) (cons_after visits (Published p) rest.added));
      notes = point_notes held visits rest.added p place n0 n1 n2 n3 at opens rest.notes (subst (λ (k : ℕ). Closes place k n2 n3) files.told closes);
    }

pub none_below : (levels : ℕ) (s : WalkContext) (held : Contents) (a : Authority) (visits : List Visit) → levels ≡ 0 → visit_below levels s held a visits ≡ refused a.uri rule.Depth
unfolding visit_below
none_below zero s held a visits e = refl
none_below (suc levels) s held a visits e = absurd cc

pub below_stops : (levels : ℕ) (s : WalkContext) (held : Contents) (a : Authority) (visits : List Visit) (c : Refusal) → (levels ≡ 0 → ⊥) → accepted_point s held a (visited visits) ≡ Err c → visit_below levels s held a visits ≡ Err c
unfolding visit_below
below_stops zero s held a visits c some is = absurd (some refl)
below_stops (suc levels) s held a visits c some is =
    bind_err (accepted_point s held a (visited visits)) (λ q. visit_files s held (visit_below levels s held) q (other_files q) (visits ++ Published q ∷ [])) c is

pub files_stop : (levels : ℕ) (s : WalkContext) (held : Contents) (a : Authority) (visits : List Visit) (p : Point) (c : Refusal) → (levels ≡ 0 → ⊥) → accepted_point s held a (visited visits) ≡ Ok p
    → visit_files s held (visit_below (levels - 1) s held) p (other_files p) (visits ++ Published p ∷ []) ≡ Err c → visit_below levels s held a visits ≡ Err c
unfolding visit_below
files_stop zero s held a visits p c some is stops = absurd (some refl)
files_stop (suc levels) s held a visits p c some is stops =
    bind_ok (accepted_point s held a (visited visits)) (λ q. visit_files s held (visit_below levels s held) q (other_files q) (visits ++ Published q ∷ [])) p is
    ∙ rw sub-one at stops

-- ---- notes

pub closed_set : (points : List AuditedPoint) (place serial : ℕ) (x : AuditedPoint) → place < length points → x ≡ get_or points place x
    → point_values (set points place (record x { greatest_serial = serial })) ≡ closed place serial (point_values points)
closed_set [] place serial x low is = let none : ⊥ = omega (arith, low) in absurd none
closed_set (p ∷ points) zero serial x low is = ap (λ (q : AuditedPoint). record (value_of q) { greatest_serial = serial } ∷ point_values points) is
closed_set (p ∷ points) (suc place) serial x low is = ap (λ ps. value_of p ∷ ps) (closed_set points place serial x (omega (arith, low)) is)

pub closed_past : (points : List AuditedPoint) (place serial : ℕ) → length points ≤ place → point_values points ≡ closed place serial (point_values points)
closed_past [] place serial high = refl
closed_past (p ∷ points) zero serial high = let none : ⊥ = omega (arith, high) in absurd none
closed_past (p ∷ points) (suc place) serial high = ap (λ ps. value_of p ∷ ps) (closed_past points place serial (omega (arith, high)))

ap2 : (us : List (List ℕ)) (m c x y : List ℕ) → m ≡ x → c ≡ y → us ++ m ∷ c ∷ [] ≡ us ++ x ∷ y ∷ []
ap2 us m c x y e f = cc

pub point_uris : (visits : List Visit) (p : Point) (s0 s1 s2 : VisitedUris) (m c : List ℕ) → m ≡ manifest_place p.authority → c ≡ crl_uri_of p.authority
    → ((us : List (List ℕ)) → Sees us s0 → Sees (us ++ m ∷ []) s1) → ((us : List (List ℕ)) → Sees us s1 → Sees (us ++ c ∷ []) s2)
    → Sees (visited visits) s0 → Sees (visited (visits ++ Published p ∷ [])) s2
point_uris visits p s0 s1 s2 m c is_m is_c one other sees =
    let us : List (List ℕ) = visited visits in
    let both : (us ++ m ∷ []) ++ c ∷ [] ≡ us ++ (manifest_place p.authority ∷ crl_uri_of p.authority ∷ []) =
    cons_after us m (c ∷ []) ∙ ap2 us m c (manifest_place p.authority) (crl_uri_of p.authority) is_m is_c in
    subst (λ (vs : List (List ℕ)). Sees vs s2) (both ∙ sym (visited_more visits (Published p))) (other (us ++ m ∷ []) (one us sees))
