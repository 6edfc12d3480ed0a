-- One origin more at its place in an ascending list.
use Rattle.std.proofs.Common.{◌≡◌, ℕ, ◌+◌, ◌-◌, ◌<◌, ◌≤◌, zero, suc, false, refl, ◌∙◌, ap, arith, length, get_or, take, List, [], ◌∷◌, ◌++◌, inl, inr}
use Rattle.std.specs.Prelude.{insert}
use Rattle.std.specs.declared.cmp.Ordering.TheVariants.{Less, Greater}
use Rattle.std.specs.Ordering.{ordering_reverse}
use Rattle.std.specs.List.{IsDistinct, AllByRecursion}
use Rattle.std.specs.List.Sorted.{IsPartitionPoint}
use Rattle.std.proofs.lemmas.Bool.{cases_lt}
use Rattle.std.proofs.lemmas.List.{get_or-append-add, length-append}
use Rattle.std.proofs.Math.Seq.{take-append-add}
use Rattle.std.proofs.lemmas.List.Edits.{get_or-insert_at, get_or-insert_below, get_or-insert_above, length-insert}
use Rattle.std.proofs.lemmas.Map.Keys.{IsDistinct-head, IsDistinct-tail, Less-from_sorted, sorted_from_all_adjacent}
use Rattle.origins.specs.declared.Origin.{Origin}
use Rattle.authority_book.specs.Origins.{origin_cmp, is_same, is_there, IsAscending}
use Rattle.authority_book.proofs.OriginOrder.{origin_total, same_back}

-- What holds of each element holds of the one at a place.
at_place : (P : Origin → Type 0) (xs : List Origin) (i : ℕ) (d : Origin) → AllByRecursion P xs → i < length xs → P (get_or xs i d)
at_place P [] i d all within = absurd (omega arith)
at_place P (x ∷ xs) zero d all within = all.0
at_place P (x ∷ xs) (suc i) d all within = at_place P xs i d all.1 (omega arith)

-- An element of a list without repetition isn't among those before it.
not_before : (xs : List Origin) (i : ℕ) (d : Origin) → IsDistinct is_same xs → i < length xs →
    is_there (take i xs) (get_or xs i d) ≡ false
not_before [] i d distinct within = absurd (omega arith)
not_before (x ∷ xs) zero d distinct within = refl
not_before (x ∷ xs) (suc i) d distinct within =
    let other = at_place (λ y. is_same x y ≡ false) xs i d (IsDistinct-head is_same x xs distinct) (omega arith) in
    let rest = not_before xs i d (IsDistinct-tail is_same x xs distinct) (omega arith) in
    rw (same_back (get_or xs i d) x, other) rest

-- The next origin to put in isn't among those that are there.
pub next_absent : (kept added : List Origin) (i : ℕ) (d : Origin) → IsDistinct is_same (kept ++ added) → i < length added →
    is_there (kept ++ take i added) (get_or added i d) ≡ false
next_absent kept added i d distinct within =
    let absent = not_before (kept ++ added) (length kept + i) d distinct (rw (length-append kept added) (omega arith)) in
    rw (take-append-add kept added i, get_or-append-add kept added i d) at absent

-- The order of two origins is that of the equal ones.
less_at : (a b x y : Origin) → a ≡ x → b ≡ y → origin_cmp x y ≡ Less → origin_cmp a b ≡ Less
less_at a b x y first second less = rw (first, second) less

-- An origin between those below and those above it leaves the list ascending.
pub ascending-insert : (xs : List Origin) (i : ℕ) (x : Origin) → IsAscending xs → i ≤ length xs →
    IsPartitionPoint (λ y. origin_cmp y x ≡ Less) (λ y. origin_cmp y x ≡ Greater) xs i → IsAscending (insert xs i x)
ascending-insert xs i x up within parts = sorted_from_all_adjacent origin_total (insert xs i x) x (λ k inside.
    let new = insert xs i x in
    let small : k < length xs = omega (arith, length-insert xs i x within) in
    elim (cases_lt k i) [
      | inl below ↦ elim (cases_lt (k + 1) i) [
        | inl next_below ↦ less_at (get_or new k x) (get_or new (k + 1) x) (get_or xs k x) (get_or xs (k + 1) x)
            (get_or-insert_below xs i x x k below within) (get_or-insert_below xs i x x (k + 1) next_below within)
            (Less-from_sorted origin_cmp xs k (k + 1) x up (omega arith) (omega arith))
        | inr next_at ↦
            let here : k + 1 ≡ i = omega arith in
            less_at (get_or new k x) (get_or new (k + 1) x) (get_or xs k x) x
            (get_or-insert_below xs i x x k below within) (ap (λ n. get_or new n x) here ∙ get_or-insert_at xs i x x within)
            (parts.0 k x (omega arith) below)
      ]
      | inr from ↦ elim (cases_lt i k) [
        | inl above ↦
            let back : k ≡ k - 1 + 1 = omega arith in
            less_at (get_or new k x) (get_or new (k + 1) x) (get_or xs (k - 1) x) (get_or xs k x)
            (ap (λ n. get_or new n x) back ∙ get_or-insert_above xs i x x (k - 1) (omega arith) within) (get_or-insert_above xs i x x k from within)
            (Less-from_sorted origin_cmp xs (k - 1) k x up (omega arith) small)
        | inr at ↦
            let here : k ≡ i = omega arith in
            less_at (get_or new k x) (get_or new (k + 1) x) x (get_or xs k x)
            (ap (λ n. get_or new n x) here ∙ get_or-insert_at xs i x x within) (get_or-insert_above xs i x x k from within)
            (origin_total.antisymm x (get_or xs k x) ∙ ap ordering_reverse (parts.1 k x from small))
      ]
    ])
