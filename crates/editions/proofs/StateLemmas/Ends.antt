-- Counters that are at their end.
use Rattle.std.proofs.Common.{◌≡◌, ℕ, ◌<◌, ◌+◌, true, false, cond, refl, sym, ◌∙◌, ap, arith, length, get_or, List, [], ◌∷◌, ◌++◌, take, drop, Some, None}
use Rattle.std.specs.Prelude.{Option, find, nat_le, is_some}
use Rattle.std.proofs.lemmas.List.{take_more, take-append-drop}
use Rattle.std.specs.Option.{option_or}
use Rattle.std.specs.List.{AllByRecursion}
use Rattle.std.proofs.lemmas.Bool.Decides.{nat_tests}
use Rattle.std.proofs.lemmas.Grind.{flat_map-append}
use Rattle.std.proofs.lemmas.List.Elements.{All-from_recursion}
use Rattle.std.proofs.lemmas.List.Folds.{find-append}
use Rattle.key_roll.specs.declared.rows.KeyRow.{KeyRow}
use Rattle.editions.specs.Moments.{end_of_counters, counters, counters_of, first_at_end, AreBelowEnd}

-- The first counter at its end is one of the next key's, where no earlier one is.
pub next_key : (before : List KeyRow) (row : KeyRow) → find (nat_le end_of_counters) (counters_of before) ≡ None →
    find (nat_le end_of_counters) (counters_of (before ++ row ∷ [])) ≡ find (nat_le end_of_counters) (counters row)
next_key before row none =
    ap (find (nat_le end_of_counters)) (flat_map-append counters before (row ∷ []))
    ∙ (find-append (nat_le end_of_counters) (counters_of before) (counters_of (row ∷ []))
    ∙ rw none refl)

or_some : {X : Type 0} (a b : Option X) (x : X) → a ≡ Some x → option_or a b ≡ Some x
or_some a b x is = rw is refl

-- It stays the first, whatever keys follow.
pub found_before : (before after : List KeyRow) (n : ℕ) → find (nat_le end_of_counters) (counters_of before) ≡ Some n →
    find (nat_le end_of_counters) (counters_of (before ++ after)) ≡ Some n
found_before before after n found =
    ap (find (nat_le end_of_counters)) (flat_map-append counters before after)
    ∙ (find-append (nat_le end_of_counters) (counters_of before) (counters_of after)
    ∙ or_some _ _ n found)

below : (n : ℕ) (rest : List ℕ) → find (nat_le end_of_counters) (n ∷ rest) ≡ None → (n < end_of_counters) × (find (nat_le end_of_counters) rest ≡ None)
below n rest none =
    elim (nat_le end_of_counters n) as (λ b. nat_le end_of_counters n ≡ b → cond b (Some n) (find (nat_le end_of_counters) rest) ≡ None → (n < end_of_counters) × (find (nat_le end_of_counters) rest ≡ None)) [
      | true ↦ λ is h. cc
      | false ↦ λ is h. (grind (arith, nat_tests, is), h)
    ] refl none

each_below : (rows : List KeyRow) → find (nat_le end_of_counters) (counters_of rows) ≡ None →
    AllByRecursion (λ row. row.number < end_of_counters) rows × AllByRecursion (λ row. row.next_serial < end_of_counters) rows
each_below [] none = (tt, tt)
each_below (row ∷ rows) none =
    let first = below row.number (row.next_serial ∷ counters_of rows) none in
    let second = below row.next_serial (counters_of rows) first.1 in
    let rest = each_below rows second.1 in
    ((first.0, rest.0), (second.0, rest.1))

-- Where none is found, all counters are below their end.
pub all_below : (count : ℕ) (rows : List KeyRow) → count < end_of_counters → find (nat_le end_of_counters) (counters_of rows) ≡ None → AreBelowEnd count rows
all_below count rows less none =
    let each = each_below rows none in
    record {
      serial = less;
      numbers = All-from_recursion (λ row. row.number < end_of_counters) rows each.0;
      serials = All-from_recursion (λ row. row.next_serial < end_of_counters) rows each.1;
    }

pub none_from : {X : Type 0} (o : Option X) → false ≡ is_some o → o ≡ None
none_from None h = refl
none_from (Some x) h = cc

found_some : (before after : List KeyRow) (o : Option ℕ) → is_some o ≡ true → o ≡ find (nat_le end_of_counters) (counters_of before) →
    find (nat_le end_of_counters) (counters_of (before ++ after)) ≡ o
found_some before after None some is = cc
found_some before after (Some n) some is = found_before before after n (sym is)

-- The first one is found among those of the key that has one.
pub found_all : (rows : List KeyRow) (i : ℕ) (row : KeyRow) (o : Option ℕ) → i < length rows → row ≡ get_or rows i row →
    find (nat_le end_of_counters) (counters_of (take i rows)) ≡ None → o ≡ find (nat_le end_of_counters) (counters row) → is_some o ≡ true →
    o ≡ find (nat_le end_of_counters) (counters_of rows)
found_all rows i row o inside is none found some =
    let longer : take (i + 1) rows ≡ take i rows ++ row ∷ [] = take_more rows i row inside ∙ ap (λ (r : KeyRow). take i rows ++ r ∷ []) (sym is) in
    let here : o ≡ find (nat_le end_of_counters) (counters_of (take (i + 1) rows)) =
    found ∙ (sym (next_key (take i rows) row none) ∙ ap (λ (l : List KeyRow). find (nat_le end_of_counters) (counters_of l)) (sym longer)) in
    sym (found_some (take (i + 1) rows) (drop (i + 1) rows) o some here)
    ∙ ap (λ (l : List KeyRow). find (nat_le end_of_counters) (counters_of l)) (take-append-drop (i + 1) rows)

-- A serial below its end isn't the one.
pub behind_serial : (count : ℕ) (rows : List KeyRow) (o : Option ℕ) → count < end_of_counters → o ≡ find (nat_le end_of_counters) (counters_of rows) → o ≡ first_at_end count rows
behind_serial count rows o less is =
    let no : nat_le end_of_counters count ≡ false = grind (arith, nat_tests) in
    rw no is
