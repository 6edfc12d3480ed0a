-- The order of origins is total, and looking an origin up in a sorted list finds its members.
use Rattle.std.proofs.Common.{◌≡◌, ℕ, ◌+◌, false, sym, ◌∙◌, ap, arith, length, get_or, List, inl, inr}
use Rattle.std.specs.Cmp.{IsEquivalence}
use Rattle.std.specs.Result.{is_ok}
use Rattle.std.specs.Prelude.{Result, Ok, Err}
use Rattle.std.specs.declared.cmp.Ordering.TheVariants.{Less, Greater}
use Rattle.std.specs.Ordering.{is_eq, is_lt, ordering_reverse}
use Rattle.std.specs.List.Sorted.{IsBinarySearchResult, IsSearchInRange, IsSorted, IsPartitionPoint}
use Rattle.std.proofs.lemmas.Bool.{cases_lt}
use Rattle.std.proofs.lemmas.Cmp.{eq_by_cmp_equiv, tied_back}
use Rattle.std.proofs.lemmas.List.Folds.{list_any_none, list_any_at}
use Rattle.std.proofs.lemmas.List.Sorted.{searchable_from_sorted}
use Rattle.std.proofs.lemmas.Map.Keys.{Less-from_sorted}
pub use Rattle.origins.specs.laws.Ordered.{origin_total}
use Rattle.origins.specs.declared.Origin.{Origin}
use Rattle.authority_book.specs.Origins.{origin_cmp, is_same, is_there, IsAscending}

pub same_laws : IsEquivalence is_same
same_laws = eq_by_cmp_equiv origin_total

pub same_back : (x y : Origin) → is_same x y ≡ is_same y x
same_back x y = same_laws.symm x y

-- An origin below or above another is another.
other_below : (x o : Origin) → origin_cmp x o ≡ Less → is_same o x ≡ false
other_below x o h = ap is_eq (origin_total.antisymm o x ∙ ap ordering_reverse h)

other_above : (x o : Origin) → origin_cmp x o ≡ Greater → is_same o x ≡ false
other_above x o h = ap is_eq (origin_total.antisymm o x ∙ ap ordering_reverse h)

-- An ascending list is sorted.
pub sorted_from_ascending : (xs : List Origin) → IsAscending xs → IsSorted origin_cmp xs
sorted_from_ascending xs up k d low high =
    let less = Less-from_sorted origin_cmp xs k (k + 1) d up (omega arith) high in
    ap is_lt (origin_total.antisymm (get_or xs (k + 1) d) (get_or xs k d) ∙ ap ordering_reverse less)

-- The origin is none of those round the place where a search left off.
none_round : (xs : List Origin) (o : Origin) (i : ℕ) →
    IsPartitionPoint (λ x. origin_cmp x o ≡ Less) (λ x. origin_cmp x o ≡ Greater) xs i → is_there xs o ≡ false
none_round xs o i parts = list_any_none (is_same o) xs (λ k d h.
    elim (cases_lt k i) [
      | inl below ↦ other_below (get_or xs k d) o (parts.0 k d (omega arith) below)
      | inr above ↦ other_above (get_or xs k d) o (parts.1 k d above h)
    ])

-- What a binary search answers is whether the origin is in the list.
pub found_sorted : (xs : List Origin) (o : Origin) (r : Result ℕ ℕ) → IsSorted origin_cmp xs → IsSearchInRange r (length xs) →
    IsBinarySearchResult (λ x. origin_cmp x o) xs r → is_ok r ≡ is_there xs o
found_sorted xs o (Ok i) up bound at =
    sym (list_any_at (is_same o) xs i o bound (ap is_eq (tied_back origin_total (get_or xs i o) o (at o))))
found_sorted xs o (Err i) up bound at =
    sym (none_round xs o i (at (searchable_from_sorted origin_total (λ x. x) xs o up)))

pub found : (xs : List Origin) (o : Origin) (r : Result ℕ ℕ) → IsAscending xs → IsSearchInRange r (length xs) →
    IsBinarySearchResult (λ x. origin_cmp x o) xs r → is_ok r ≡ is_there xs o
found xs o r up bound at = found_sorted xs o r (sorted_from_ascending xs up) bound at

-- Where a binary search found nothing, the origins before its place are below, and the others above.
pub parted : (xs : List Origin) (o : Origin) (i : ℕ) → IsAscending xs → IsBinarySearchResult (λ x. origin_cmp x o) xs (Err i) →
    IsPartitionPoint (λ x. origin_cmp x o ≡ Less) (λ x. origin_cmp x o ≡ Greater) xs i
parted xs o i up at = at (searchable_from_sorted origin_total (λ x. x) xs o (sorted_from_ascending xs up))
