-- Ascending lists: one with the same members is the same, and each origin more has its one place.
use Rattle.std.proofs.Common.{◌≡◌, ℕ, ◌+◌, ◌<◌, ◌≤◌, zero, suc, Bool, true, false, refl, sym, ◌∙◌, ap, subst, arith, length, get_or, take, List, [], ◌∷◌, ◌++◌, cond}
use Rattle.std.specs.Prelude.{◌||◌}
use Rattle.std.specs.declared.cmp.Ordering.{Ordering}
use Rattle.std.specs.declared.cmp.Ordering.TheVariants.{Less, Equal, Greater}
use Rattle.std.specs.Ordering.{is_eq, is_lt, ordering_reverse}
use Rattle.std.specs.List.{IsDistinct, AllByRecursion}
use Rattle.std.specs.List.Sorted.{IsStrictlySortedBy}
use Rattle.std.proofs.lemmas.List.{take_more, append-nil}
use Rattle.std.proofs.lemmas.List.Folds.{list_any-append}
use Rattle.origins.specs.declared.Origin.{Origin}
use Rattle.origins.specs.laws.Ordered.{exact_origin}
use Rattle.authority_book.specs.Origins.{origin_cmp, is_same, is_there, IsAscending, with_one, with_each}
use Rattle.authority_book.proofs.OriginOrder.{origin_total, same_laws}
use Rattle.authority_book.proofs.Same.{is_same-iff}
use Rattle.authority_book.proofs.Inserted.{next_absent}

-- The origin is below each of the list.
abbrev pub IsBelow : Origin → List Origin → Type 0
IsBelow x xs = AllByRecursion (λ y. origin_cmp x y ≡ Less) xs

head_below : (x : Origin) (xs : List Origin) → IsAscending (x ∷ xs) → IsBelow x xs
unfolding IsStrictlySortedBy
head_below x xs up = up.0

tail_up : (x : Origin) (xs : List Origin) → IsAscending (x ∷ xs) → IsAscending xs
unfolding IsStrictlySortedBy
tail_up x xs up = up.1

up_from : (x : Origin) (xs : List Origin) → IsBelow x xs → IsAscending xs → IsAscending (x ∷ xs)
unfolding IsStrictlySortedBy
up_from x xs below up = (below, up)

-- What is below each of a list isn't in it.
pub not_there : (x : Origin) (xs : List Origin) → IsBelow x xs → is_there xs x ≡ false
not_there x [] below = refl
not_there x (y ∷ ys) below = rw (ap is_eq below.0, not_there x ys below.1) refl

below_all : (x y : Origin) (ys : List Origin) → origin_cmp x y ≡ Less → IsBelow y ys → IsBelow x ys
below_all x y [] less below = tt
below_all x y (z ∷ zs) less below = (origin_total.trans x y z less below.0, below_all x y zs less below.1)

same_self : (x : Origin) → is_same x x ≡ true
same_self x = same_laws.refl x

-- An origin at the head of one list and below the head of another isn't in that other.
heads_clash : (x y : Origin) (xs ys : List Origin) → origin_cmp x y ≡ Less → IsBelow y ys →
    is_there (x ∷ xs) x ≡ is_there (y ∷ ys) x → ⊥
heads_clash x y xs ys less below same =
    let none : is_there (y ∷ ys) x ≡ false = not_there x (y ∷ ys) (less, below_all x y ys less below) in
    let some : is_there (x ∷ xs) x ≡ true = ap (λ b. b || is_there xs x) (same_self x) in
    cc

-- The members of the tails are the same where the heads are.
tails_same : (x : Origin) (xs ys : List Origin) → IsBelow x xs → IsBelow x ys →
    ((o : Origin) → is_there (x ∷ xs) o ≡ is_there (x ∷ ys) o) → (o : Origin) → is_there xs o ≡ is_there ys o
tails_same x xs ys first second same o = by_test (is_same o x) refl
  where
    by_test : (b : Bool) → is_same o x ≡ b → is_there xs o ≡ is_there ys o
    by_test false other =
        let here = same o in
        rw (other) at here
    by_test true equal =
        let is : x ≡ o = sym ((is_same-iff o x).0 equal) in
        subst (λ (z : Origin). is_there xs z ≡ is_there ys z) is (not_there x xs first ∙ sym (not_there x ys second))

-- Ascending lists with the same members are one.
pub same_lists : (xs ys : List Origin) → IsAscending xs → IsAscending ys →
    ((o : Origin) → is_there xs o ≡ is_there ys o) → xs ≡ ys
same_lists [] [] first second same = refl
same_lists [] (y ∷ ys) first second same =
    let none = same y ∙ ap (λ b. b || is_there ys y) (same_self y) in
    absurd (cc)
same_lists (x ∷ xs) [] first second same =
    let none = sym (same x) ∙ ap (λ b. b || is_there xs x) (same_self x) in
    absurd (cc)
same_lists (x ∷ xs) (y ∷ ys) first second same =
    by_order (origin_cmp x y) refl (λ members. same_lists xs ys (tail_up x xs first) (tail_up y ys second) members)
  where
    by_order : (order : Ordering) → origin_cmp x y ≡ order → (((o : Origin) → is_there xs o ≡ is_there ys o) → xs ≡ ys) → x ∷ xs ≡ y ∷ ys
    by_order Less is further = absurd (heads_clash x y xs ys is (head_below y ys second) (same x))
    by_order Greater is further = absurd (heads_clash y x ys xs (origin_total.antisymm y x ∙ ap ordering_reverse is)
        (head_below x xs first) (sym (same y)))
    by_order Equal is further =
        let heads : x ≡ y = exact_origin x y is in
        let below : IsBelow x ys = subst (λ (z : Origin). IsBelow z ys) (sym heads) (head_below y ys second) in
        let members : (o : Origin) → is_there (x ∷ xs) o ≡ is_there (x ∷ ys) o = λ o. same o ∙ ap (λ (z : Origin). is_there (z ∷ ys) o) (sym heads) in
        let rest = further (tails_same x xs ys (head_below x xs first) below members) in
        ap (λ (z : Origin). z ∷ xs) heads ∙ ap (λ l. y ∷ l) rest

-- ---- one origin more
or_swapped : (a b c : Bool) → (a || (b || c)) ≡ (b || (a || c))
or_swapped true true c = refl
or_swapped true false c = refl
or_swapped false b c = refl

pub there-with_one : (xs : List Origin) (x o : Origin) → is_there (with_one xs x) o ≡ (is_same o x || is_there xs o)
there-with_one [] x o = refl
there-with_one (first ∷ rest) x o =
    let further = ap (λ b. is_same o first || b) (there-with_one rest x o) ∙ or_swapped (is_same o first) (is_same o x) (is_there rest o) in
    elim (is_lt (origin_cmp x first)) as (λ b. is_there (cond b (x ∷ first ∷ rest) (first ∷ with_one rest x)) o
    ≡ (is_same o x || is_there (first ∷ rest) o)) [ true ↦ refl | false ↦ further ]

below-with_one : (y x : Origin) (xs : List Origin) → IsBelow y xs → origin_cmp y x ≡ Less → IsBelow y (with_one xs x)
below-with_one y x [] below less = (less, tt)
below-with_one y x (first ∷ rest) below less =
    elim (is_lt (origin_cmp x first)) as (λ b. IsBelow y (cond b (x ∷ first ∷ rest) (first ∷ with_one rest x)))
    [ true ↦ (less, below) | false ↦ (below.0, below-with_one y x rest below.1 less) ]

false_or : (a b : Bool) → (a || b) ≡ false → (a ≡ false) × (b ≡ false)
false_or true b none = absurd (cc)
false_or false b none = (refl, none)

-- An origin that isn't there leaves the list ascending.
pub ascending-with_one : (xs : List Origin) (x : Origin) → IsAscending xs → is_there xs x ≡ false → IsAscending (with_one xs x)
ascending-with_one [] x up absent = up_from x [] tt up
ascending-with_one (first ∷ rest) x up absent =
    let apart = false_or (is_same x first) (is_there rest x) absent in
    by_order (origin_cmp x first) refl apart.0 (ascending-with_one rest x (tail_up first rest up) apart.1)
  where
    by_order : (order : Ordering) → origin_cmp x first ≡ order → is_same x first ≡ false → IsAscending (with_one rest x) →
        IsAscending (with_one (first ∷ rest) x)
    by_order Less is apart further =
        rw (ap is_lt is) (up_from x (first ∷ rest) (is, below_all x first rest is (head_below first rest up)) up)
    by_order Equal is apart further = let same = ap is_eq is in absurd (cc)
    by_order Greater is apart further =
        let above : origin_cmp first x ≡ Less = origin_total.antisymm first x ∙ ap ordering_reverse is in
        rw (ap is_lt is) (up_from first (with_one rest x) (below-with_one first x rest (head_below first rest up) above) further)

-- ---- each of some origins more
pub with_each-push : (xs added : List Origin) (x : Origin) → with_each xs (added ++ x ∷ []) ≡ with_one (with_each xs added) x
with_each-push xs [] x = refl
with_each-push xs (first ∷ rest) x = with_each-push (with_one xs first) rest x

or_last : (a b c : Bool) → ((a || b) || c) ≡ (b || (a || c))
or_last true true c = refl
or_last true false c = refl
or_last false b c = refl

pub there-with_each : (xs added : List Origin) (o : Origin) → is_there (with_each xs added) o ≡ is_there (xs ++ added) o
there-with_each xs [] o = ap (λ l. is_there l o) (sym (append-nil xs))
there-with_each xs (first ∷ rest) o =
    there-with_each (with_one xs first) rest o
    ∙ (list_any-append (is_same o) (with_one xs first) rest
    ∙ (ap (λ b. b || is_there rest o) (there-with_one xs first o)
    ∙ (or_last (is_same o first) (is_there xs o) (is_there rest o)
    ∙ sym (list_any-append (is_same o) xs (first ∷ rest)))))

-- The next of some origins more.
pub with_each-next : (xs added : List Origin) (i : ℕ) (x : Origin) → i < length added → x ≡ get_or added i x →
    with_each xs (take (i + 1) added) ≡ with_one (with_each xs (take i added)) x
with_each-next xs added i x within is =
    ap (λ l. with_each xs l) (take_more added i x within ∙ ap (λ (y : Origin). take i added ++ y ∷ []) (sym is))
    ∙ with_each-push xs (take i added) x

pub next_not_there : (xs added : List Origin) (i : ℕ) (x : Origin) → IsDistinct is_same (xs ++ added) → i < length added →
    x ≡ get_or added i x → is_there (with_each xs (take i added)) x ≡ false
next_not_there xs added i x distinct within is =
    there-with_each xs (take i added) x
    ∙ (ap (λ (y : Origin). is_there (xs ++ take i added) y) is ∙ next_absent xs added i x distinct within)

ascending-first : (xs added : List Origin) → IsAscending xs → IsDistinct is_same (xs ++ added) → (i : ℕ) → i ≤ length added →
    IsAscending (with_each xs (take i added))
ascending-first xs added up distinct zero within = up
ascending-first xs [] up distinct (suc i) within = absurd (omega arith)
ascending-first xs (a ∷ added) up distinct (suc i) within =
    let all = a ∷ added in
    let x = get_or all i a in
    let small : i < length all = omega arith in
    let before = ascending-first xs all up distinct i (omega arith) in
    let next : suc i ≡ i + 1 = omega arith in
    let longer : take (suc i) all ≡ take i all ++ x ∷ [] = ap (λ n. take n all) next ∙ take_more all i a small in
    let absent = there-with_each xs (take i all) x ∙ next_absent xs all i a distinct small in
    subst (λ (l : List Origin). IsAscending (with_each xs l)) (sym longer)
    (subst (λ (l : List Origin). IsAscending l) (sym (with_each-push xs (take i all) x)) (ascending-with_one (with_each xs (take i all)) x before absent))

take_whole : (xs : List Origin) → take (length xs) xs ≡ xs
take_whole [] = refl
take_whole (x ∷ xs) = ap (λ l. x ∷ l) (take_whole xs)

-- Origins that are apart leave the list ascending.
pub ascending-with_each : (xs added : List Origin) → IsAscending xs → IsDistinct is_same (xs ++ added) → IsAscending (with_each xs added)
ascending-with_each xs added up distinct =
    subst (λ (l : List Origin). IsAscending (with_each xs l)) (take_whole added) (ascending-first xs added up distinct (length added) (omega arith))
