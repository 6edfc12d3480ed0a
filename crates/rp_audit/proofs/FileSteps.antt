-- The files of a point, one after another, and the end of a walk.
use Rattle.std.proofs.Common.{◌≡◌, ℕ, ◌+◌, List, [], ◌∷◌, ◌++◌, Bool, true, false, Option, None, Some, Ok, Err, length, map, drop, refl, sym, ap, subst, ◌∙◌, append_assoc, cond}
use Rattle.std.specs.Prelude.{if◌then◌else◌, not, max, ◌&&◌}
use Rattle.std.specs.List.{filter, fold, find, list_all}
use Rattle.std.proofs.lemmas.Bool.{and_from}
use Rattle.pub_set.specs.declared.objects.Object.{Object}
use Rattle.pub_set.specs.Changes.{Contents}
use Rattle.payloads.specs.declared.values.ListedFile.{ListedFile}
use Rattle.payloads.specs.ManifestFormats.{file_view}
use Rattle.rp_rules.specs.Checks.{Refused as Refusal, Checked, ◌>>=◌}
use Rattle.rp_rules.specs.Authorities.{Authority, listed_uri}
use Rattle.rp_rules.specs.Certificates.{WalkContext, File, is_among, accepted_anchor, accepted_authority}
use Rattle.rp_rules.specs.Points.{Point, is_certificate_file, is_crl_file, files_of, other_files, accepted_roa}
use Rattle.rp_rules.specs.Walk.{Visit, Certificate, Published, Route, Below, visited, visit_file, visit_files, visit_below, walk}
use Rattle.rp_rules.specs.Yield.{yield, points, listed_serial, own_serial, greatest_serial}
use Rattle.rp_rules.specs.Views.{yielded_values, point_values}
use Rattle.rp_audit.specs.declared.noted.Noted.{Noted}
use Rattle.rp_audit.specs.inner.Noted.{Sees, Notes, WalkContinues, VisitsFile, VisitsFiles, IsWalk, visit_authority, visit_roa}
use Rattle.rp_audit.proofs.Checking.{bind_ok, bind_err}
use Rattle.rp_audit.proofs.Steps.{notes_then, append_nil}

-- ---- one file

pub file_is_authority : (s : WalkContext) (held : Contents) (below : Below) (p : Point) (file : File) (visits : List Visit) → is_certificate_file file ≡ true
    → visit_file s held below p file visits ≡ visit_authority s held below p file visits
unfolding visit_file
file_is_authority s held below p file visits kind =
    ap (λ (b : Bool). if b then visit_authority s held below p file visits else visit_roa s held p file visits) kind

pub file_is_roa : (s : WalkContext) (held : Contents) (below : Below) (p : Point) (file : File) (visits : List Visit) → is_certificate_file file ≡ false
    → visit_file s held below p file visits ≡ visit_roa s held p file visits
unfolding visit_file
file_is_roa s held below p file visits kind =
    ap (λ (b : Bool). if b then visit_authority s held below p file visits else visit_roa s held p file visits) kind

-- ---- the files

-- The files but for the CRL.
abbrev pub others : List ListedFile → List File
others files = filter (λ file. not (is_crl_file file)) (map file_view files)

pub others_skip : (file : ListedFile) (files : List ListedFile) → is_crl_file (file_view file) ≡ true → others (file ∷ files) ≡ others files
others_skip file files e = ap (λ (b : Bool). cond (not b) (file_view file ∷ others files) (others files)) e

pub others_take : (file : ListedFile) (files : List ListedFile) → is_crl_file (file_view file) ≡ false → others (file ∷ files) ≡ file_view file ∷ others files
others_take file files e = ap (λ (b : Bool). cond (not b) (file_view file ∷ others files) (others files)) e

-- What was done of the files, and what is left.
pub record SoFar (s : WalkContext) (held : Contents) (below : Below) (p : Point) (visits : List Visit) (left : List File) (old now : Noted) (greatest : ℕ) : Type 0 where
  pub added : List Visit
  pub comes : visit_files s held below p (other_files p) visits ≡ visit_files s held below p left (visits ++ added)
  pub notes : Notes held visits added old now
  pub told : fold max greatest (map (listed_serial held p) left) ≡ greatest_serial held p

none_noted : (held : Contents) (visits : List Visit) (old : Noted) → Notes held visits [] old old
none_noted held visits old = record {
  uris = λ s. subst (λ (vs : List Visit). Sees (visited vs) old.visited_uris) (sym (append_nil visits)) s;
  yielded = sym (append_nil (yielded_values old.origins.items));
  listed = sym (append_nil (point_values old.points.items));
}

pub at_start : (s : WalkContext) (held : Contents) (below : Below) (p : Point) (visits : List Visit) (old : Noted) (greatest : ℕ)
    → greatest ≡ max (own_serial p.authority.cert) p.manifest.certificate.cert.serial → SoFar s held below p visits (other_files p) old old greatest
at_start s held below p visits old greatest e = record {
  added = [];
  comes = ap (λ (vs : List Visit). visit_files s held below p (other_files p) vs) (sym (append_nil visits));
  notes = none_noted held visits old;
  told = ap (λ (g : ℕ). fold max g (map (listed_serial held p) (other_files p))) e;
}

pub same_left : (s : WalkContext) (held : Contents) (below : Below) (p : Point) (visits : List Visit) (a b : List File) (old now : Noted) (greatest : ℕ) → a ≡ b → SoFar s held below p visits a old now greatest → SoFar s held below p visits b old now greatest
same_left s held below p visits a b old now greatest e so = subst (λ (fs : List File). SoFar s held below p visits fs old now greatest) e so

files_cons : (s : WalkContext) (held : Contents) (below : Below) (p : Point) (file : File) (left : List File) (visits : List Visit)
    → visit_files s held below p (file ∷ left) visits ≡ (visit_file s held below p file visits >>= visit_files s held below p left)
unfolding visit_files
files_cons s held below p file left visits = refl

files_nil : (s : WalkContext) (held : Contents) (below : Below) (p : Point) (visits : List Visit) → visit_files s held below p [] visits ≡ Ok visits
unfolding visit_files
files_nil s held below p visits = refl

-- One file more.
pub one_more : (s : WalkContext) (held : Contents) (below : Below) (p : Point) (visits : List Visit) (file : File) (left : List File) (old now new : Noted) (greatest serial : ℕ) (so : SoFar s held below p visits (file ∷ left) old now greatest)
    → VisitsFile held p file (visits ++ so.added) now new serial (visit_file s held below p file (visits ++ so.added)) → SoFar s held below p visits left old new (max greatest serial)
one_more s held below p visits file left old now new greatest serial so visits_ =
    let goes = visits_.goes in
    record {
      added = so.added ++ goes.added;
      comes = so.comes ∙ (files_cons s held below p file left (visits ++ so.added)
          ∙ (bind_ok (visit_file s held below p file (visits ++ so.added)) (visit_files s held below p left) ((visits ++ so.added) ++ goes.added) goes.comes
          ∙ ap (λ (vs : List Visit). visit_files s held below p left vs) (append_assoc visits so.added goes.added)));
      notes = notes_then held visits so.added goes.added old now new so.notes goes.notes;
      told = ap (λ (n : ℕ). fold max (max greatest n) (map (listed_serial held p) left)) visits_.told ∙ so.told;
    }

-- A file that ends the walk.
pub one_stops : (s : WalkContext) (held : Contents) (below : Below) (p : Point) (visits : List Visit) (file : File) (left : List File) (old now : Noted) (greatest : ℕ) (c : Refusal) (so : SoFar s held below p visits (file ∷ left) old now greatest)
    → visit_file s held below p file (visits ++ so.added) ≡ Err c → visit_files s held below p (other_files p) visits ≡ Err c
one_stops s held below p visits file left old now greatest c so e =
    so.comes ∙ (files_cons s held below p file left (visits ++ so.added)
    ∙ bind_err (visit_file s held below p file (visits ++ so.added)) (visit_files s held below p left) c e)

-- No file is left.
pub at_end : (s : WalkContext) (held : Contents) (below : Below) (p : Point) (visits : List Visit) (old new : Noted) (greatest : ℕ) → SoFar s held below p visits [] old new greatest
    → VisitsFiles held p visits old new greatest (visit_files s held below p (other_files p) visits)
at_end s held below p visits old new greatest so = record {
  goes = record { added = so.added; comes = so.comes ∙ files_nil s held below p (visits ++ so.added); notes = so.notes };
  told = so.told;
}

-- ---- the walk

pub whole_walk : (s : WalkContext) (held : Contents) (a : Authority) (n0 n1 n2 : Noted) → accepted_anchor s held ≡ Ok a
    → n0.origins.items ≡ [] → n0.points.items ≡ [] → Notes held [] (Certificate a ∷ []) n0 n1 → Sees [] n0.visited_uris
    → WalkContinues held (Certificate a ∷ []) n1 n2 (visit_below 65 s held a (Certificate a ∷ [])) → IsWalk held n2 (walk s held)
unfolding walk
whole_walk s held a n0 n1 n2 is origins points_ first none goes = record {
  visits = Certificate a ∷ goes.added;
  comes = bind_ok (accepted_anchor s held) (λ x. visit_below 65 s held x (Certificate x ∷ [])) a is ∙ goes.comes;
  uris = goes.notes.uris (first.uris none);
  yielded = goes.notes.yielded ∙ ap (λ xs. xs ++ yield goes.added) (first.yielded ∙ ap (λ xs. yielded_values xs ++ []) origins);
  listed = goes.notes.listed ∙ ap (λ xs. xs ++ points held goes.added) (first.listed ∙ ap (λ xs. point_values xs ++ []) points_);
}

pub walk_stops : (s : WalkContext) (held : Contents) (a : Authority) (c : Refusal) → accepted_anchor s held ≡ Ok a → visit_below 65 s held a (Certificate a ∷ []) ≡ Err c → walk s held ≡ Err c
unfolding walk
walk_stops s held a c is e = bind_ok (accepted_anchor s held) (λ x. visit_below 65 s held x (Certificate x ∷ [])) a is ∙ e

pub anchor_stops : (s : WalkContext) (held : Contents) (c : Refusal) → accepted_anchor s held ≡ Err c → walk s held ≡ Err c
unfolding walk
anchor_stops s held c e = bind_err (accepted_anchor s held) (λ x. visit_below 65 s held x (Certificate x ∷ [])) c e

find_step : (b : Bool) (o : Object) (rest : Option Object) → cond (not b) (Some o) rest ≡ None → (b ≡ true) × (rest ≡ None)
find_step true o rest e = (refl, e)
find_step false o rest e = absurd cc

-- Where none is found that isn't, all are.
pub all_among : (uris : List (List ℕ)) (objects : List Object) → find (λ o. not (is_among uris o.uri)) objects ≡ None → list_all (λ o. is_among uris o.uri) objects ≡ true
all_among uris [] e = refl
all_among uris (o ∷ objects) e =
    let both = find_step (is_among uris o.uri) o (find (λ x. not (is_among uris x.uri)) objects) e in
    and_from (is_among uris o.uri) (list_all (λ x. is_among uris x.uri) objects) both.0 (all_among uris objects both.1)
