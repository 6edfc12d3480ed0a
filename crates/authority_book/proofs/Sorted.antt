-- Origins in ascending order, and the same origins in the order in which they were added.
use Rattle.std.proofs.Common.{◌≡◌, ℕ, ◌+◌, ◌<◌, zero, suc, add-one, false, refl, ap, arith, length, get_or, List, [], ◌∷◌}
use Rattle.std.specs.declared.cmp.Ordering.{Ordering}
use Rattle.std.specs.declared.cmp.Ordering.TheVariants.{Less, Equal, Greater}
use Rattle.std.specs.Ordering.{is_eq, is_lt, ordering_reverse}
use Rattle.std.specs.List.{IsDistinct}
use Rattle.std.specs.List.Sorted.{IsStrictlySortedBy, IsSorted}
use Rattle.std.proofs.lemmas.Map.Keys.{IsDistinct-head, IsDistinct-tail, sorted_from_all_adjacent}
use Rattle.origins.specs.declared.Origin.{Origin}
use Rattle.authority_book.specs.Origins.{origin_cmp, is_same, IsAscending}
use Rattle.authority_book.proofs.OriginOrder.{origin_total}

pub ascending-nil : IsAscending []
unfolding IsStrictlySortedBy
ascending-nil = tt

-- Neighbours in a list without repetition differ.
neighbours_differ : (xs : List Origin) (k : ℕ) (d : Origin) → IsDistinct is_same xs → suc k < length xs →
    is_same (get_or xs k d) (get_or xs (suc k) d) ≡ false
neighbours_differ [] k d distinct within = absurd (omega arith)
neighbours_differ (x ∷ []) k d distinct within = absurd (omega arith)
neighbours_differ (x ∷ y ∷ xs) zero d distinct within = (IsDistinct-head is_same x (y ∷ xs) distinct).0
neighbours_differ (x ∷ y ∷ xs) (suc k) d distinct within =
    neighbours_differ (y ∷ xs) k d (IsDistinct-tail is_same x (y ∷ xs) distinct) (omega arith)

-- Neighbours that differ and aren't the wrong way round ascend.
pub less_from : (there back : Ordering) → back ≡ ordering_reverse there → is_eq there ≡ false → is_lt back ≡ false → there ≡ Less
less_from Less back reverse unlike up = refl
less_from Equal back reverse unlike up = absurd (cc)
less_from Greater back reverse unlike up = let e = ap is_lt reverse in absurd (cc)

-- A sorted list without repetition ascends.
pub ascending_from_sorted : (xs : List Origin) → IsSorted origin_cmp xs → IsDistinct is_same xs → IsAscending xs
ascending_from_sorted [] up distinct = ascending-nil
ascending_from_sorted (x ∷ xs) up distinct = sorted_from_all_adjacent origin_total (x ∷ xs) x (λ k within.
    let here = get_or (x ∷ xs) k x in
    let next = get_or (x ∷ xs) (k + 1) x in
    let unlike : is_same here next ≡ false = rw add-one (neighbours_differ (x ∷ xs) k x distinct (omega arith)) in
    less_from (origin_cmp here next) (origin_cmp next here) (origin_total.antisymm next here) unlike (up k x (omega arith) within))
