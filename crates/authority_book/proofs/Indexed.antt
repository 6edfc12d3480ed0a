-- The set of a list's members as the list grows, and lists in order.
use Rattle.std.proofs.Common.{◌≡◌, ℕ, ◌+◌, ◌<◌, length, get_or, subst, arith, Bool, true, false, refl, sym, ◌∙◌, ap, List, [], ◌∷◌, ◌++◌, cond}
use Rattle.std.specs.Prelude.{Some, None, not, ◌||◌}
use Rattle.std.specs.BTreeSet.{BTreeSet, contains, Updates}
use Rattle.std.specs.List.{IsDistinct}
use Rattle.std.specs.Ordering.{is_lt}
use Rattle.std.specs.declared.cmp.Ordering.{Ordering}
use Rattle.std.specs.declared.cmp.Ordering.TheVariants.{Less, Equal, Greater}
use Rattle.std.specs.List.Sorted.{IsPermutation, IsSorted}
use Rattle.std.proofs.lemmas.List.{append-nil, append_assoc}
use Rattle.std.proofs.lemmas.List.Folds.{list_any-append}
use Rattle.std.proofs.lemmas.List.Sorted.{IsPermutation-sym}
use Rattle.std.proofs.lemmas.Map.Keys.{IsDistinct-IsPermutation, sorted_from_all_adjacent}
use Rattle.origins.specs.declared.Origin.{Origin}
use Rattle.authority_book.specs.Origins.{origin_cmp, is_same, is_there, first_repeated, first_repeated_after, IsAscending}
use Rattle.authority_book.proofs.OriginOrder.{origin_total, same_back}
use Rattle.authority_book.proofs.Sorted.{ascending-nil, less_from}
use Rattle.authority_book.proofs.Inserted.{next_absent}
use Rattle.authority_book.proofs.Changes.{distinct_from_ascending}

one_more : (here same : Bool) → cond same true here ≡ (here || (same || false))
one_more true true = refl
one_more true false = refl
one_more false true = refl
one_more false false = refl

pub members_more : (xs : List Origin) (o : Origin) (s t : BTreeSet Origin) → ((q : Origin) → contains origin_cmp s q ≡ is_there xs q) →
    Updates origin_cmp s t o true → (q : Origin) → contains origin_cmp t q ≡ is_there (xs ++ o ∷ []) q
members_more xs o s t members updates q =
    updates.0 q ∙ (ap (λ b. cond (is_same o q) true b) (members q)
    ∙ (one_more (is_there xs q) (is_same o q)
    ∙ (ap (λ b. is_there xs q || (b || false)) (same_back o q) ∙ sym (list_any-append (is_same q) xs (o ∷ [])))))

-- What `insert` answers says whether the origin was there.
pub fresh_from : (b : Bool) → true ≡ not b → b ≡ false
fresh_from true e = e
fresh_from false e = refl

pub known_from : (b : Bool) → false ≡ not b → b ≡ true
known_from true e = refl
known_from false e = e

-- A list in which no origin stands twice has no first repetition.
none_repeated : (earlier xs : List Origin) → IsDistinct is_same (earlier ++ xs) → first_repeated_after earlier xs ≡ None
none_repeated earlier [] distinct = refl
none_repeated earlier (x ∷ xs) distinct =
    let absent : is_there earlier x ≡ false =
    ap (λ l. is_there l x) (sym (append-nil earlier)) ∙ next_absent earlier (x ∷ xs) 0 x distinct (omega arith) in
    let rest = none_repeated (earlier ++ x ∷ []) xs (subst (λ (l : List Origin). IsDistinct is_same l) (sym (append_assoc earlier (x ∷ []) xs)) distinct) in
    ap (λ b. cond b (Some x) (first_repeated_after (earlier ++ x ∷ []) xs)) absent ∙ rest

-- A list whose sorted origins ascend has no repetition.
pub none_from_ascending : (items sorted : List Origin) → IsPermutation items sorted → IsAscending sorted → first_repeated items ≡ None
none_from_ascending items sorted moved up =
    none_repeated [] items (IsDistinct-IsPermutation is_same same_back sorted items (IsPermutation-sym items sorted moved) (distinct_from_ascending sorted up))

-- Neighbours that differ in a sorted list ascend.
pub ascending_from_neighbours : (xs : List Origin) → IsSorted origin_cmp xs →
    ((k : ℕ) (d : Origin) → k + 1 < length xs → is_same (get_or xs k d) (get_or xs (k + 1) d) ≡ false) → IsAscending xs
ascending_from_neighbours [] up unlike = ascending-nil
ascending_from_neighbours (x ∷ xs) up unlike = sorted_from_all_adjacent origin_total (x ∷ xs) x (λ k within.
    let here = get_or (x ∷ xs) k x in
    let next = get_or (x ∷ xs) (k + 1) x in
    less_from (origin_cmp here next) (origin_cmp next here) (origin_total.antisymm next here) (unlike k x within) (up k x (omega arith) within))

less_told : (o : Ordering) → is_lt o ≡ true → o ≡ Less
less_told Less e = refl
less_told Equal e = absurd (cc)
less_told Greater e = absurd (cc)

-- Neighbours of which each is below the next ascend.
pub ascending_from_steps : (xs : List Origin) → ((k : ℕ) (d : Origin) → k + 1 < length xs → is_lt (origin_cmp (get_or xs k d) (get_or xs (k + 1) d)) ≡ true) → IsAscending xs
ascending_from_steps [] steps = ascending-nil
ascending_from_steps (x ∷ xs) steps = sorted_from_all_adjacent origin_total (x ∷ xs) x (λ k within. less_told _ (steps k x within))
