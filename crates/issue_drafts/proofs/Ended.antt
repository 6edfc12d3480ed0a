-- The certificates that end: each URI that is touched is looked for among the rows, behind the row
-- of the one before.
use Rattle.std.proofs.Common.{◌≡◌, ℕ, ◌+◌, ◌-◌, ◌<◌, ◌≤◌, zero, suc, Bool, true, false, cond, not}
use Rattle.std.proofs.Common.{◌&&◌, ◌||◌, ◌==◌, Option, None, Some, Result, Ok, Err, List, [], ◌∷◌}
use Rattle.std.proofs.Common.{◌++◌, length, get_or, drop, map, refl, sym, ap, ap₂, subst, ◌∙◌, arith}
use Rattle.std.specs.List.{slice_get}
use Rattle.std.specs.List.Sorted.{IsBinarySearchResult, IsSearchInRange, IsStrictlySortedBy}
use Rattle.std.specs.Ordering.{is_lt, on}
use Rattle.std.specs.Str.{bytes_eq}
use Rattle.std.specs.declared.cmp.Ordering.TheVariants.{Less}
use Rattle.std.proofs.lemmas.Bool.{or_left}
use Rattle.std.proofs.lemmas.List.{append_assoc, append-nil, drop_all, drop_more, drop-drop}
use Rattle.std.proofs.lemmas.List.{get_or-drop, get_or_default, length-drop}
use Rattle.std.proofs.lemmas.List.Folds.{list_any_none}
use Rattle.std.proofs.lemmas.List.Sorted.{sorted_far, ranks_by, searchable_from_sorted}
use Rattle.std.proofs.lemmas.Map.Keys.{Less-from_sorted}
use Rattle.std.proofs.lemmas.Option.{get_or_from_slice_get}
use Rattle.std.proofs.lemmas.Slice.Eq.{bytes_eq-Decides}
use Rattle.key_ids.specs.declared.identifier.KeyId.{KeyId}
use Rattle.key_roll.specs.declared.issued.IssuedRow.{IssuedRow}
use Rattle.pub_set.specs.Objects.{uri_cmp, Rise}
use Rattle.pub_set.specs.laws.UriLaws.{uri_total, tied_is, below_from_above}
use Rattle.issue_keys.specs.declared.key_index.KeyPosition.{KeyPosition}
use Rattle.issue_keys.specs.Indexes.{key_positions}
use Rattle.issue_drafts.specs.Touching.{has_uri, AreByUri}
use Rattle.issue_drafts.specs.laws.UriOrder.{sorted-from-rise}
use Rattle.issue_drafts.specs.inner.Entries.{counted_key, ended_key, IsTaken, IsLook}
use Rattle.issue_drafts.proofs.KeyPlaces.{cons-positions, passed, no-positions}
use Rattle.issue_drafts.proofs.Named.{not-same}
use Rattle.issue_drafts.proofs.OrderedFiles.{never}

abbrev row_uri : IssuedRow → List ℕ
row_uri row = row.uri

-- ---- keys of rows whose URIs are touched, or not

untouched-test : (a b t : Bool) → t ≡ false → (a && b && t) ≡ false
untouched-test true true t e = e
untouched-test true false t e = refl
untouched-test false b t e = refl

touched-test : (a b t : Bool) → t ≡ true → (a && b && t) ≡ (a && b)
touched-test true true t e = e
touched-test true false t e = refl
touched-test false b t e = refl

no-key : (anchor : List ℕ) (uris : List (List ℕ)) (row : IssuedRow) → has_uri row.uri uris ≡ false
    → ended_key anchor uris row ≡ None
no-key anchor uris row e =
    ap (λ (b : Bool). cond b (Some row.issuer) None)
    (untouched-test (not (row.serial == 0)) (not (bytes_eq row.uri anchor)) (has_uri row.uri uris) e)

own-key : (anchor : List ℕ) (uris : List (List ℕ)) (row : IssuedRow) → has_uri row.uri uris ≡ true
    → ended_key anchor uris row ≡ counted_key anchor row
own-key anchor uris row e =
    ap (λ (b : Bool). cond b (Some row.issuer) None)
    (touched-test (not (row.serial == 0)) (not (bytes_eq row.uri anchor)) (has_uri row.uri uris) e)

-- ---- the URIs from one on

-- What comes before it is none of them.
before-none : (uris : List (List ℕ)) (i : ℕ) (u uri : List ℕ) → AreByUri uris → i < length uris
    → u ≡ get_or uris i u → uri_cmp uri u ≡ Less → has_uri uri (drop i uris) ≡ false
before-none uris i u uri sorted lt is low =
    list_any_none (λ (o : List ℕ). bytes_eq o uri) (drop i uris) (λ k d within.
    let inside : i + k < length uris = omega (arith, within, lt, length-drop i uris) in
    let first : get_or uris i d ≡ u = get_or_default uris i d u lt ∙ sym is in
    let level : is_lt (uri_cmp (get_or uris (i + k) d) (get_or uris i d)) ≡ false =
    sorted_far (λ (a b : List ℕ). is_lt (uri_cmp a b)) (ranks_by uri_total (λ (a : List ℕ). a)) uris sorted i (i + k) d
    (omega arith) inside in
    not-same (get_or (drop i uris) k d) uri (λ same.
    let here : get_or uris (i + k) d ≡ uri = sym (get_or-drop i uris k d) ∙ same in
    let no : is_lt (uri_cmp uri u) ≡ false =
    sym (ap₂ (λ (a b : List ℕ). is_lt (uri_cmp a b)) here first) ∙ level in
    never (is_lt (uri_cmp uri u)) (ap is_lt low) no))

-- What comes behind it is one of them if it is one of the others.
behind-first : (uris : List (List ℕ)) (i : ℕ) (u uri : List ℕ) → i < length uris → u ≡ get_or uris i u
    → uri_cmp u uri ≡ Less → has_uri uri (drop i uris) ≡ has_uri uri (drop (i + 1) uris)
behind-first uris i u uri lt is low =
    let other : bytes_eq u uri ≡ false =
    not-same u uri (λ same.
    let up : is_lt (uri_cmp uri uri) ≡ true = ap is_lt (sym (ap (λ (a : List ℕ). uri_cmp a uri) same) ∙ low) in
    never (is_lt (uri_cmp uri uri)) up ((ranks_by uri_total (λ (a : List ℕ). a)).one_way uri uri up)) in
    ap (has_uri uri) (drop_more uris i u lt)
    ∙ ap (λ (b : Bool). b || has_uri uri (drop (i + 1) uris)) (ap (λ (a : List ℕ). bytes_eq a uri) (sym is) ∙ other)

-- It is one of them.
first-there : (uris : List (List ℕ)) (i : ℕ) (u uri : List ℕ) → i < length uris → u ≡ get_or uris i u
    → uri ≡ u → has_uri uri (drop i uris) ≡ true
first-there uris i u uri lt is same =
    ap (has_uri uri) (drop_more uris i u lt)
    ∙ or_left (bytes_eq (get_or uris i u) uri) (has_uri uri (drop (i + 1) uris))
    (ap (λ (a : List ℕ). bytes_eq a uri) (sym is) ∙ (bytes_eq-Decides u uri).1 (sym same))

-- ---- one look after the other

rise-drop : (n : ℕ) (rows : List IssuedRow) → Rise row_uri rows → Rise row_uri (drop n rows)
unfolding IsStrictlySortedBy
rise-drop zero rows up = up
rise-drop (suc n) [] up = tt
rise-drop (suc n) (r ∷ rs) up = rise-drop n rs up.1

-- The rows before a position are told of, and of the URIs before one none is that of a row behind.
pub record Reached (anchor : List ℕ) (uris : List (List ℕ)) (rows : List IssuedRow) (i from : ℕ)
    (ended : List KeyPosition) : Type 0 where
  pub within : from ≤ length rows
  pub told :
      key_positions 0 (map (ended_key anchor uris) rows) ≡ ended
      ++ key_positions from (map (ended_key anchor uris) (drop from rows))
  pub rest :
      (k : ℕ) (d : IssuedRow) → k < length (drop from rows)
      → has_uri (get_or (drop from rows) k d).uri uris ≡ has_uri (get_or (drop from rows) k d).uri (drop i uris)

pub reached-none : (anchor : List ℕ) (uris : List (List ℕ)) (rows : List IssuedRow) → Reached anchor uris rows 0 0 []
reached-none anchor uris rows = record { within = omega arith; told = refl; rest = λ k d lt. refl }

pub reached-all : (anchor : List ℕ) (uris : List (List ℕ)) (rows : List IssuedRow) (i from : ℕ)
    (ended : List KeyPosition)
    → length uris ≤ i → Reached anchor uris rows i from ended
    → key_positions 0 (map (ended_key anchor uris) rows) ≡ ended
reached-all anchor uris rows i from ended end h =
    let none : key_positions from (map (ended_key anchor uris) (drop from rows)) ≡ [] =
    no-positions (ended_key anchor uris) from (drop from rows) (λ k d lt.
    let row = get_or (drop from rows) k d in
    no-key anchor uris row (h.rest k d lt ∙ ap (has_uri row.uri) (drop_all i uris end))) in
    h.told ∙ (ap (λ (l : List KeyPosition). ended ++ l) none ∙ append-nil ended)

-- Of the rows from a position on, those before a place come before the URI, and those from another
-- place on behind it.
record Split (rows : List IssuedRow) (u : List ℕ) (at next : ℕ) : Type 0 where
  pub low : (k : ℕ) (d : IssuedRow) → k < at → uri_cmp (get_or rows k d).uri u ≡ Less
  pub high : (k : ℕ) (d : IssuedRow) → next ≤ k → k < length rows → uri_cmp u (get_or rows k d).uri ≡ Less

split-found : (rows : List IssuedRow) (u : List ℕ) (at : ℕ) (row : IssuedRow) → Rise row_uri rows
    → at < length rows → slice_get rows at ≡ Some row → row.uri ≡ u → Split rows u at (at + 1)
split-found rows u at row up lt there same = record {
  low = λ k d less.
      subst (λ (a : List ℕ). uri_cmp (get_or rows k d).uri a ≡ Less)
      (ap row_uri (get_or_from_slice_get rows at row d there) ∙ same)
      (Less-from_sorted (on row_uri uri_cmp) rows k at d up less lt);
  high = λ k d next inside.
      subst (λ (a : List ℕ). uri_cmp a (get_or rows k d).uri ≡ Less)
      (ap row_uri (get_or_from_slice_get rows at row d there) ∙ same)
      (Less-from_sorted (on row_uri uri_cmp) rows at k d up (omega (arith, next)) inside);
}

split-missing : (rows : List IssuedRow) (u : List ℕ) (at : ℕ) → Rise row_uri rows
    → IsBinarySearchResult (λ (r : IssuedRow). uri_cmp r.uri u) rows (Err at) → Split rows u at at
split-missing rows u at up found =
    let parts = found (searchable_from_sorted uri_total row_uri rows u (sorted-from-rise row_uri rows up)) in
    record {
      low = λ k d less. parts.0 k d (omega arith) less;
      high = λ k d next inside. below_from_above (get_or rows k d).uri u (parts.1 k d next inside);
    }

-- Rows before the place are passed over.
passed-here : (anchor : List ℕ) (uris : List (List ℕ)) (rows : List IssuedRow) (i from at next : ℕ) (u : List ℕ)
    (ended : List KeyPosition)
    → AreByUri uris → i < length uris → u ≡ get_or uris i u → Reached anchor uris rows i from ended
    → at ≤ length (drop from rows) → Split (drop from rows) u at next
    → key_positions from (map (ended_key anchor uris) (drop from rows))
    ≡ key_positions (from + at) (map (ended_key anchor uris) (drop at (drop from rows)))
passed-here anchor uris rows i from at next u ended sorted lt is h within split =
    passed (ended_key anchor uris) from at (drop from rows) (λ k d less.
    let row = get_or (drop from rows) k d in
    no-key anchor uris row
    (h.rest k d (omega (arith, less, within)) ∙ before-none uris i u row.uri sorted lt is (split.low k d less)))
    within

-- The rows behind the place are to be looked at for the URIs behind.
rest-here : (anchor : List ℕ) (uris : List (List ℕ)) (rows : List IssuedRow) (i from at next : ℕ) (u : List ℕ)
    (ended : List KeyPosition)
    → i < length uris → u ≡ get_or uris i u → Reached anchor uris rows i from ended
    → Split (drop from rows) u at next → (k : ℕ) (d : IssuedRow) → k < length (drop (from + next) rows)
    → has_uri (get_or (drop (from + next) rows) k d).uri uris
    ≡ has_uri (get_or (drop (from + next) rows) k d).uri (drop (i + 1) uris)
rest-here anchor uris rows i from at next u ended lt is h split k d inside =
    let rest = drop from rows in
    let row = get_or rest (next + k) d in
    let far : next + k < length rest =
    omega (arith, inside, length-drop (from + next) rows, length-drop from rows) in
    let same : get_or (drop (from + next) rows) k d ≡ row =
    ap (λ (l : List IssuedRow). get_or l k d) (sym (drop-drop next from rows)) ∙ get_or-drop next rest k d in
    let here : has_uri row.uri uris ≡ has_uri row.uri (drop (i + 1) uris) =
    h.rest (next + k) d far ∙ behind-first uris i u row.uri lt is (split.high (next + k) d (omega arith) far) in
    subst (λ (r : IssuedRow). has_uri r.uri uris ≡ has_uri r.uri (drop (i + 1) uris)) (sym same) here

reached-found : (anchor : List ℕ) (uris : List (List ℕ)) (rows : List IssuedRow) (i from at : ℕ) (u : List ℕ)
    (row : IssuedRow) (before after : List KeyPosition)
    → Rise row_uri rows → AreByUri uris → i < length uris → u ≡ get_or uris i u
    → Reached anchor uris rows i from before → at < length (drop from rows)
    → slice_get (drop from rows) at ≡ Some row → row.uri ≡ u
    → after ≡ before ++ key_positions (from + at) (counted_key anchor row ∷ [])
    → Reached anchor uris rows (i + 1) (from + (at + 1)) after
reached-found anchor uris rows i from at u row before after up sorted lt is h bound there same adds =
    let f = ended_key anchor uris in
    let rest = drop from rows in
    let split = split-found rest u at row (rise-drop from rows up) bound there same in
    let touched : has_uri row.uri uris ≡ true =
    subst (λ (r : IssuedRow). has_uri r.uri uris ≡ has_uri r.uri (drop i uris))
    (get_or_from_slice_get rest at row row there) (h.rest at row bound) ∙ first-there uris i u row.uri lt is same in
    let behind : drop at rest ≡ row ∷ drop (from + (at + 1)) rows =
    drop_more rest at row bound
    ∙ (ap (λ (r : IssuedRow). r ∷ drop (at + 1) rest) (get_or_from_slice_get rest at row row there)
    ∙ ap (λ (l : List IssuedRow). row ∷ l) (drop-drop (at + 1) from rows)) in
    let last : (from + at) + 1 ≡ from + (at + 1) = omega arith in
    let more : key_positions from (map f rest)
    ≡ key_positions (from + at) (counted_key anchor row ∷ [])
    ++ key_positions (from + (at + 1)) (map f (drop (from + (at + 1)) rows)) =
    passed-here anchor uris rows i from at (at + 1) u before sorted lt is h (omega (arith, bound)) split
    ∙ (ap (λ (l : List IssuedRow). key_positions (from + at) (map f l)) behind
    ∙ (ap (λ (o : Option KeyId). key_positions (from + at) (o ∷ map f (drop (from + (at + 1)) rows)))
    (own-key anchor uris row touched)
    ∙ (cons-positions (from + at) (counted_key anchor row) (map f (drop (from + (at + 1)) rows))
    ∙ ap (λ (n : ℕ). key_positions (from + at) (counted_key anchor row ∷ [])
    ++ key_positions n (map f (drop (from + (at + 1)) rows))) last))) in
    record {
      within = omega (arith, bound, h.within, length-drop from rows);
      told = h.told ∙ (ap (λ (l : List KeyPosition). before ++ l) more
          ∙ (sym (append_assoc before (key_positions (from + at) (counted_key anchor row ∷ []))
          (key_positions (from + (at + 1)) (map f (drop (from + (at + 1)) rows))))
          ∙ ap (λ (l : List KeyPosition). l ++ key_positions (from + (at + 1)) (map f (drop (from + (at + 1)) rows)))
          (sym adds)));
      rest = rest-here anchor uris rows i from at (at + 1) u before lt is h split;
    }

reached-missing : (anchor : List ℕ) (uris : List (List ℕ)) (rows : List IssuedRow) (i from at : ℕ) (u : List ℕ)
    (ended : List KeyPosition)
    → Rise row_uri rows → AreByUri uris → i < length uris → u ≡ get_or uris i u
    → Reached anchor uris rows i from ended → at ≤ length (drop from rows)
    → IsBinarySearchResult (λ (r : IssuedRow). uri_cmp r.uri u) (drop from rows) (Err at)
    → Reached anchor uris rows (i + 1) (from + at) ended
reached-missing anchor uris rows i from at u ended up sorted lt is h bound found =
    let f = ended_key anchor uris in
    let split = split-missing (drop from rows) u at (rise-drop from rows up) found in
    let more : key_positions from (map f (drop from rows)) ≡ key_positions (from + at) (map f (drop (from + at) rows)) =
    passed-here anchor uris rows i from at at u ended sorted lt is h bound split
    ∙ ap (λ (l : List IssuedRow). key_positions (from + at) (map f l)) (drop-drop at from rows) in
    record {
      within = omega (arith, bound, h.within, length-drop from rows);
      told = h.told ∙ ap (λ (l : List KeyPosition). ended ++ l) more;
      rest = rest-here anchor uris rows i from at at u ended lt is h split;
    }

-- One URI more.
pub reached-more : (anchor : List ℕ) (uris : List (List ℕ)) (rows : List IssuedRow) (i from next : ℕ) (u : List ℕ)
    (before after : List KeyPosition)
    → Rise row_uri rows → AreByUri uris → i < length uris → u ≡ get_or uris i u
    → Reached anchor uris rows i from before → IsLook anchor u rows from next before after
    → Reached anchor uris rows (i + 1) next after
reached-more anchor uris rows i from next u before after up sorted lt is h look =
    by look.place look.bound look.found look.taken
  where
    by : (place : Result ℕ ℕ) → IsSearchInRange place (length (drop from rows))
        → IsBinarySearchResult (λ (r : IssuedRow). uri_cmp r.uri u) (drop from rows) place
        → IsTaken anchor (drop from rows) from next before after place → Reached anchor uris rows (i + 1) next after
    by (Ok at) bound found taken =
        let row : IssuedRow = taken.row in
        let same : row.uri ≡ u =
        tied_is row.uri u (ap (λ (r : IssuedRow). uri_cmp r.uri u)
        (sym (get_or_from_slice_get (drop from rows) at row row taken.there)) ∙ found row) in
        let regrouped : from + (at + 1) ≡ from + at + 1 = omega arith in
        subst (λ (n : ℕ). Reached anchor uris rows (i + 1) n after) (regrouped ∙ sym taken.behind)
        (reached-found anchor uris rows i from at u row before after up sorted lt is h bound taken.there same taken.added)
    by (Err at) bound found taken =
        subst (λ (n : ℕ). Reached anchor uris rows (i + 1) n after) (sym taken.0)
        (subst (λ (l : List KeyPosition). Reached anchor uris rows (i + 1) (from + at) l) (sym taken.1)
        (reached-missing anchor uris rows i from at u before up sorted lt is h bound found))
