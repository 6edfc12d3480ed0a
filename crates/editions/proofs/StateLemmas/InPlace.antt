-- A table in which rows are put and taken out in place.
use Rattle.std.proofs.Common.{◌≡◌, ℕ, ◌+◌, ◌<◌, ◌≤◌, zero, suc, true, false, cond, Bool, refl, sym, subst, ◌∙◌, ap, arith, set, length, get_or, take, drop, drop-cons, List, [], ◌∷◌, ◌++◌, Some, None}
use Rattle.std.specs.Prelude.{Option, Result, Ok, Err, insert, remove}
use Rattle.std.specs.Option.{option_or, option_to_list}
use Rattle.std.specs.List.{AllByRecursion, AllWithin}
use Rattle.std.specs.List.Sorted.{IsBinarySearchResult, IsSearchInRange}
use Rattle.std.specs.Ordering.{is_lt, on, ordering_reverse}
use Rattle.std.specs.declared.cmp.Ordering.TheVariants.{Less, Equal, Greater}
use Rattle.std.proofs.lemmas.List.{take-append-drop, set_split}
use Rattle.std.proofs.lemmas.List.Sorted.{searchable_from_sorted}
use Rattle.std.proofs.lemmas.Map.Keys.{Less-from_sorted}
use Rattle.key_roll.specs.declared.issued.IssuedRow.{IssuedRow}
use Rattle.pub_set.specs.declared.steps.Change.{Change}
use Rattle.pub_set.specs.declared.objects.Object.{Object}
use Rattle.pub_set.specs.Objects.{uri_cmp, is_same, content_at, Rise, AllBelow, AllAbove}
use Rattle.pub_set.specs.Changes.{Contents, change_at, after, after_all, IsApplied}
use Rattle.pub_set.specs.laws.UriLaws.{uri_total, same_is, tied_is, below_from_above}
use Rattle.pub_set.specs.laws.LookupLaws.{rise-left, rise-right, rise-head, rise-tail, rise-cons, rise-append, rise-between, below-middle, above_further, below_further, all_weaken, all_append, none_above, none_below, found_at-append}
use Rattle.editions.specs.declared.standing.NextRow.{NextRow}
use Rattle.editions.specs.declared.standing.NextRow.TheVariants.{Issued, Gone}
use Rattle.editions.specs.Joining.{IsAt, at_uri}
use Rattle.editions.specs.Standing.{row_at, row_after, next_uri, next_row, IsTableAfter}
use Rattle.editions.specs.inner.RowPlaces.{IsRowPlace, StartsElse, PopsIf}
use Rattle.editions.proofs.StateLemmas.Lookups.{found-here, found-elsewhere}
use Rattle.editions.proofs.StateLemmas.Tabled.{row_uri, IsComing}

-- ---- where a row stands

sorted_from_rise : (rows : List IssuedRow) → Rise row_uri rows → (k : ℕ) (d : IssuedRow) → 0 ≤ k → k + 1 < length rows →
    is_lt (uri_cmp (get_or rows (k + 1) d).uri (get_or rows k d).uri) ≡ false
sorted_from_rise rows up k d low high =
    let less = Less-from_sorted (on row_uri uri_cmp) rows k (k + 1) d up (omega arith) high in
    ap is_lt (uri_total.antisymm (get_or rows (k + 1) d).uri (get_or rows k d).uri ∙ ap ordering_reverse less)

all_from_within : (P : IssuedRow → Type 0) (rows : List IssuedRow) (n : ℕ) → n ≤ length rows → AllWithin P rows 0 n → AllByRecursion P (take n rows)
all_from_within P rows zero within all = tt
all_from_within P [] (suc n) within all = tt
all_from_within P (row ∷ rows) (suc n) within all =
    (all 0 row (omega arith) (omega arith), all_from_within P rows n (omega arith) (λ k d low high. all (suc k) d (omega arith) (omega arith)))

all_from_behind : (P : IssuedRow → Type 0) (rows : List IssuedRow) (n : ℕ) → AllWithin P rows n (length rows) → AllByRecursion P (drop n rows)
all_from_behind P [] zero all = tt
all_from_behind P [] (suc n) all = tt
all_from_behind P (row ∷ rows) zero all =
    (all 0 row (omega arith) (omega arith), all_from_behind P rows zero (λ k d low high. all (suc k) d (omega arith) (omega arith)))
all_from_behind P (row ∷ rows) (suc n) all = all_from_behind P rows n (λ k d low high. all (suc k) d (omega arith) (omega arith))

-- What a binary search finds is the place.
pub place_found : (rows : List IssuedRow) (uri : List ℕ) (r : Result ℕ ℕ) → Rise row_uri rows → IsSearchInRange r (length rows) →
    IsBinarySearchResult (λ row. uri_cmp row.uri uri) rows r → IsRowPlace rows uri r
place_found rows uri (Ok i) up bound at = (bound, λ d. tied_is (get_or rows i d).uri uri (at d))
place_found rows uri (Err i) up bound at =
    let parts = at (searchable_from_sorted uri_total row_uri rows uri (sorted_from_rise rows up)) in (
      bound,
      all_from_within (λ row. uri_cmp row.uri uri ≡ Less) rows i bound parts.0,
      all_from_behind (λ row. uri_cmp uri row.uri ≡ Less) rows i (λ k d low high. below_from_above (get_or rows k d).uri uri (parts.1 k d low high)),
    )

-- ---- a row between those below its URI and those above it

pub rise-middle : (xs ys : List IssuedRow) (uri : List ℕ) (is : Option IssuedRow) → Rise row_uri xs → Rise row_uri ys →
    AllBelow row_uri xs uri → AllAbove row_uri ys uri → IsAt row_uri uri is → Rise row_uri (xs ++ (option_to_list is ++ ys))
rise-middle xs ys uri None first second below above at = rise-between row_uri xs ys uri first second below above
rise-middle xs ys uri (Some row) first second below above at =
    rise-append row_uri xs (row ∷ ys) first (rise-cons row_uri row ys (rw at above) second)
    (all_weaken (λ x. uri_cmp x.uri uri ≡ Less) (λ x. AllAbove row_uri (row ∷ ys) x.uri) (λ x h. (rw at h, above_further row_uri x.uri uri ys h above)) xs below)

pub found-middle : (xs ys : List IssuedRow) (uri : List ℕ) (was is : Option IssuedRow) → AllBelow row_uri xs uri → AllAbove row_uri ys uri →
    IsAt row_uri uri was → IsAt row_uri uri is → (at : List ℕ) →
    row_at (xs ++ (option_to_list is ++ ys)) at ≡ cond (is_same uri at) is (row_at (xs ++ (option_to_list was ++ ys)) at)
found-middle xs ys uri was is below above there here at =
    elim (is_same uri at) as (λ b. is_same uri at ≡ b →
    row_at (xs ++ (option_to_list is ++ ys)) at ≡ cond b is (row_at (xs ++ (option_to_list was ++ ys)) at)) [
      | true ↦ λ same.
          let one : uri ≡ at = same_is uri at same in
          ap (λ (a : List ℕ). row_at (xs ++ (option_to_list is ++ ys)) a) (sym one)
          ∙ (found_at-append row_uri (λ row. row) xs (option_to_list is ++ ys) uri
          ∙ rw (none_below row_uri (λ row. row) xs uri below) (found-here row_uri uri is ys here above))
      | false ↦ λ other.
          found_at-append row_uri (λ row. row) xs (option_to_list is ++ ys) at
          ∙ (ap (option_or (row_at xs at)) (found-elsewhere row_uri uri is ys at here other ∙ sym (found-elsewhere row_uri uri was ys at there other))
          ∙ sym (found_at-append row_uri (λ row. row) xs (option_to_list was ++ ys) at))
    ] refl

-- What is left of a row where this comes.
abbrev pub left_by : NextRow → Option IssuedRow
left_by (Issued row) = Some row
left_by (Gone uri) = None

at_next : (next : NextRow) → IsAt row_uri (next_uri next) (left_by next)
at_next (Issued row) = refl
at_next (Gone uri) = tt

next_left : (row : Option IssuedRow) (next : NextRow) → left_by next ≡ next_row row (Some next)
next_left row (Issued issued) = refl
next_left row (Gone uri) = refl

chosen : (same : Bool) (row : Option IssuedRow) (next : NextRow) →
    cond same (left_by next) row ≡ next_row row (cond same (Some next) None)
chosen true row next = next_left row next
chosen false row next = refl

comes_between : (xs ys old new : List IssuedRow) (was : Option IssuedRow) (next : NextRow) → Rise row_uri xs → Rise row_uri ys →
    AllBelow row_uri xs (next_uri next) → AllAbove row_uri ys (next_uri next) → IsAt row_uri (next_uri next) was →
    old ≡ xs ++ (option_to_list was ++ ys) → new ≡ xs ++ (option_to_list (left_by next) ++ ys) → IsComing old (next ∷ []) new
comes_between xs ys old new was next first second below above there before after =
    let uri = next_uri next in record {
      rising = rw after (rise-middle xs ys uri (left_by next) first second below above (at_next next));
      each = λ at.
          ap (λ (rows : List IssuedRow). row_at rows at) after
          ∙ (found-middle xs ys uri was (left_by next) below above there (at_next next) at
          ∙ (ap (λ (rows : List IssuedRow). cond (is_same uri at) (left_by next) (row_at rows at)) (sym before)
          ∙ chosen (is_same uri at) (row_at old at) next));
    }

-- Where a row is at the URI.
pub comes_over : (rows new : List IssuedRow) (i : ℕ) (d : IssuedRow) (next : NextRow) → Rise row_uri rows → IsRowPlace rows (next_uri next) (Ok i) →
    new ≡ take i rows ++ (option_to_list (left_by next) ++ drop (suc i) rows) → IsComing rows (next ∷ []) new
comes_over rows new i d next up at is =
    let row = get_or rows i d in
    let parts : rows ≡ take i rows ++ row ∷ drop (suc i) rows = sym (take-append-drop i rows) ∙ ap (λ (l : List IssuedRow). take i rows ++ l) (drop-cons rows i d at.0) in
    let whole : Rise row_uri (take i rows ++ row ∷ drop (suc i) rows) = subst (λ (l : List IssuedRow). Rise row_uri l) parts up in
    let tail : Rise row_uri (row ∷ drop (suc i) rows) = rise-right row_uri (take i rows) (row ∷ drop (suc i) rows) whole in
    let here : row.uri ≡ next_uri next = at.1 d in
    comes_between (take i rows) (drop (suc i) rows) rows new (Some row) next
    (rise-left row_uri (take i rows) (row ∷ drop (suc i) rows) whole) (rise-tail row_uri row (drop (suc i) rows) tail)
    (rw (← here) (below-middle row_uri (take i rows) row (drop (suc i) rows) whole)) (rw (← here) (rise-head row_uri row (drop (suc i) rows) tail))
    here parts is

-- Where none is.
pub comes_in : (rows new : List IssuedRow) (i : ℕ) (next : NextRow) → Rise row_uri rows → IsRowPlace rows (next_uri next) (Err i) →
    new ≡ take i rows ++ (option_to_list (left_by next) ++ drop i rows) → IsComing rows (next ∷ []) new
comes_in rows new i next up at is =
    let whole : Rise row_uri (take i rows ++ drop i rows) = subst (λ (l : List IssuedRow). Rise row_uri l) (sym (take-append-drop i rows)) up in
    comes_between (take i rows) (drop i rows) rows new None next
    (rise-left row_uri (take i rows) (drop i rows) whole) (rise-right row_uri (take i rows) (drop i rows) whole)
    at.1 at.2 tt (sym (take-append-drop i rows)) is

pub row_put : (rows : List IssuedRow) (i : ℕ) (d row : IssuedRow) → Rise row_uri rows → IsRowPlace rows row.uri (Ok i) → IsComing rows (Issued row ∷ []) (set rows i row)
row_put rows i d row up at = comes_over rows (set rows i row) i d (Issued row) up at (set_split rows i row at.0)

pub row_in : (rows : List IssuedRow) (i : ℕ) (row : IssuedRow) → Rise row_uri rows → IsRowPlace rows row.uri (Err i) → IsComing rows (Issued row ∷ []) (insert rows i row)
row_in rows i row up at = comes_in rows (insert rows i row) i (Issued row) up at refl

pub row_out : (rows : List IssuedRow) (i : ℕ) (d : IssuedRow) (uri : List ℕ) → Rise row_uri rows → IsRowPlace rows uri (Ok i) → IsComing rows (Gone uri ∷ []) (remove rows i)
row_out rows i d uri up at = comes_over rows (remove rows i) i d (Gone uri) up at refl

pub row_none : (rows : List IssuedRow) (i : ℕ) (uri : List ℕ) → Rise row_uri rows → IsRowPlace rows uri (Err i) → IsComing rows (Gone uri ∷ []) rows
row_none rows i uri up at = comes_in rows rows i (Gone uri) up at (sym (take-append-drop i rows))

-- ---- one after another

-- What the first does, and the others then.
pub coming_next : (old new : List IssuedRow) (next : NextRow) (rest : List NextRow) → Rise next_uri (next ∷ rest) → IsComing old (next ∷ []) new → (at : List ℕ) →
    next_row (row_at new at) (at_uri next_uri rest at) ≡ next_row (row_at old at) (at_uri next_uri (next ∷ rest) at)
coming_next old new next rest up one at =
    elim (is_same (next_uri next) at) as (λ b. is_same (next_uri next) at ≡ b → row_at new at ≡ next_row (row_at old at) (cond b (Some next) None) →
    next_row (row_at new at) (at_uri next_uri rest at) ≡ next_row (row_at old at) (cond b (Some next) (at_uri next_uri rest at))) [
      | true ↦ λ same is.
          let here : next_uri next ≡ at = same_is (next_uri next) at same in
          let none : at_uri next_uri rest at ≡ None = rw (← here) (none_above next_uri (λ x. x) rest (next_uri next) (rise-head next_uri next rest up)) in
          rw none is
      | false ↦ λ other is. ap (λ (row : Option IssuedRow). next_row row (at_uri next_uri rest at)) is
    ] refl (one.each at)

-- ---- a row between those that were moved and those that are left

-- Rows of which the first is neither below a URI nor at it are above it.
above_from_starts : (rows : List IssuedRow) (uri : List ℕ) → Rise row_uri rows → StartsElse rows uri Less → StartsElse rows uri Equal → AllAbove row_uri rows uri
above_from_starts [] uri up not_less not_equal = tt
above_from_starts (row ∷ rest) uri up not_less not_equal =
    elim (uri_cmp row.uri uri) as (λ r. uri_cmp row.uri uri ≡ r → AllAbove row_uri (row ∷ rest) uri) [
      | Less ↦ λ is. absurd (not_less is)
      | Equal ↦ λ is. absurd (not_equal is)
      | Greater ↦ λ is.
          let above = below_from_above row.uri uri is in (above, above_further row_uri uri row.uri rest above (rise-head row_uri row rest up))
    ] refl

-- What comes stands behind those that were moved, in place of the row that was at its URI.
pub merged_next : (old xs ys zs new : List IssuedRow) (was : Option IssuedRow) (next : NextRow) → Rise row_uri old → xs ++ ys ≡ old →
    AllBelow row_uri xs (next_uri next) → StartsElse ys (next_uri next) Less → PopsIf ys (next_uri next) Equal was zs →
    new ≡ xs ++ (option_to_list (next_row None (Some next)) ++ zs) → IsComing old (next ∷ []) new
merged_next old xs ys zs new None next up parts below starts popped is =
    let whole : Rise row_uri (xs ++ ys) = subst (λ (l : List IssuedRow). Rise row_uri l) (sym parts) up in
    let second : Rise row_uri ys = rise-right row_uri xs ys whole in
    let above : AllAbove row_uri ys (next_uri next) = above_from_starts ys (next_uri next) second starts popped.1 in
    comes_between xs ys old new None next (rise-left row_uri xs ys whole) second below above tt (sym parts)
    (is ∙ (ap (λ (row : Option IssuedRow). xs ++ (option_to_list row ++ zs)) (sym (next_left None next))
    ∙ ap (λ (l : List IssuedRow). xs ++ (option_to_list (left_by next) ++ l)) popped.0))
merged_next old xs ys zs new (Some row) next up parts below starts popped is =
    let there : xs ++ row ∷ zs ≡ old = ap (λ (l : List IssuedRow). xs ++ l) (sym popped.0) ∙ parts in
    let whole : Rise row_uri (xs ++ row ∷ zs) = subst (λ (l : List IssuedRow). Rise row_uri l) (sym there) up in
    let tail : Rise row_uri (row ∷ zs) = rise-right row_uri xs (row ∷ zs) whole in
    let here : row.uri ≡ next_uri next = tied_is row.uri (next_uri next) popped.1 in
    comes_between xs zs old new (Some row) next (rise-left row_uri xs (row ∷ zs) whole) (rise-tail row_uri row zs tail) below
    (rw (← here) (rise-head row_uri row zs tail)) here (sym there)
    (is ∙ ap (λ (issued : Option IssuedRow). xs ++ (option_to_list issued ++ zs)) (sym (next_left None next)))

-- What was moved, with what comes behind it, is below each later URI.
pub below_later : (xs : List IssuedRow) (next : NextRow) (later : List ℕ) → AllBelow row_uri xs (next_uri next) → uri_cmp (next_uri next) later ≡ Less →
    AllBelow row_uri (xs ++ option_to_list (next_row None (Some next))) later
below_later xs (Issued row) later below less =
    all_append (λ x. uri_cmp x.uri later ≡ Less) xs (row ∷ []) (below_further row_uri row.uri later xs less below) (less, tt)
below_later xs (Gone uri) later below less =
    all_append (λ x. uri_cmp x.uri later ≡ Less) xs [] (below_further row_uri uri later xs less below) tt

-- ---- what a spare leads to

-- Changes one after another.
after_both : (held : Contents) (first then : List Change) → after_all held (first ++ then) ≡ after_all (after_all held first) then
after_both held [] then = refl
after_both held (change ∷ rest) then = after_both (after held change) rest then

-- Of a set to which the last changes lead, what they and others make of the one before.
pub applied_behind : (spare old : List Object) (last changes : List Change) (new : List Object) →
    IsApplied spare last old → IsApplied spare (last ++ changes) new → IsApplied old changes new
applied_behind spare old last changes new stands both = λ uri.
    let held : (at : List ℕ) → after_all (content_at spare) last at ≡ content_at old at = λ at. sym (stands at) in
    both uri
    ∙ (ap (λ (h : Contents). h uri) (after_both (content_at spare) last changes)
    ∙ ap (λ (h : Contents). after_all h changes uri) (λ i at. held at i))

-- Changes make the same of two tables that others made of one.
pub tabled_twice : (spare same old : List IssuedRow) (last changes : List Change) (told issued new : List IssuedRow) →
    IsTableAfter spare last told same → IsTableAfter spare last told old → IsTableAfter same changes issued new → IsTableAfter old changes issued new
tabled_twice spare same old last changes told issued new one two then = record {
  rising = then.rising;
  each = λ uri. then.each uri ∙ ap (λ (row : Option IssuedRow). row_after row (change_at changes uri) (row_at issued uri)) (one.each uri ∙ sym (two.each uri));
}
