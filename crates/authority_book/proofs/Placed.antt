-- What std's searches, insertions and sorts make of ascending lists.
use Rattle.std.proofs.Common.{◌≡◌, ℕ, ◌≤◌, false, sym, ◌∙◌, length, List, ◌∷◌, ◌++◌}
use Rattle.std.specs.Prelude.{insert}
use Rattle.std.specs.declared.cmp.Ordering.TheVariants.{Less, Greater}
use Rattle.std.specs.List.{IsDistinct}
use Rattle.std.specs.List.Sorted.{IsPermutation, IsPartitionPoint, IsSorted}
use Rattle.std.proofs.lemmas.List.Sorted.{list_any-IsPermutation, IsPermutation-insert}
use Rattle.std.proofs.lemmas.Map.Keys.{IsDistinct-IsPermutation}
use Rattle.origins.specs.declared.Origin.{Origin}
use Rattle.authority_book.specs.Origins.{origin_cmp, is_same, is_there, IsAscending, with_one, with_each}
use Rattle.authority_book.proofs.OriginOrder.{same_back}
use Rattle.authority_book.proofs.Sorted.{ascending_from_sorted}
use Rattle.authority_book.proofs.Inserted.{ascending-insert}
use Rattle.authority_book.proofs.Ascending.{same_lists, there-with_one, ascending-with_one, there-with_each, ascending-with_each}

-- An origin put in where a search left off.
pub inserted_is : (xs : List Origin) (i : ℕ) (x : Origin) → IsAscending xs → is_there xs x ≡ false → i ≤ length xs →
    IsPartitionPoint (λ y. origin_cmp y x ≡ Less) (λ y. origin_cmp y x ≡ Greater) xs i → insert xs i x ≡ with_one xs x
inserted_is xs i x up absent within parts =
    same_lists (insert xs i x) (with_one xs x) (ascending-insert xs i x up within parts) (ascending-with_one xs x up absent)
    (λ o. sym (list_any-IsPermutation (is_same o) (x ∷ xs) (insert xs i x) (IsPermutation-insert xs i x)) ∙ sym (there-with_one xs x o))

-- Origins sorted in.
pub sorted_is : (xs added sorted : List Origin) → IsAscending xs → IsDistinct is_same (xs ++ added) →
    IsPermutation (xs ++ added) sorted → IsSorted origin_cmp sorted → sorted ≡ with_each xs added
sorted_is xs added sorted up distinct moved in_order =
    same_lists sorted (with_each xs added)
    (ascending_from_sorted sorted in_order (IsDistinct-IsPermutation is_same same_back (xs ++ added) sorted moved distinct))
    (ascending-with_each xs added up distinct)
    (λ o. sym (list_any-IsPermutation (is_same o) (xs ++ added) sorted moved) ∙ sym (there-with_each xs added o))
