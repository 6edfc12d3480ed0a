-- Lists in which no origin stands twice.
use Rattle.std.proofs.Common.{◌≡◌, ◌≤◌, Bool, true, false, refl, sym, ◌∙◌, ap, subst, arith, length, List, [], ◌∷◌, ◌++◌, cond}
use Rattle.std.specs.Prelude.{Option, Some, None, not, ◌&&◌, find, filter, map}
use Rattle.std.specs.List.{IsDistinct, AllByRecursion}
use Rattle.std.specs.Option.{IsSome}
use Rattle.std.specs.Map.{lookup, keys_of}
use Rattle.std.proofs.lemmas.List.{append-nil, append_assoc, length-map}
use Rattle.std.proofs.lemmas.List.Folds.{list_any-append}
use Rattle.std.proofs.lemmas.Map.Keys.{IsDistinct-push, IsDistinct-head, IsDistinct-tail, IsDistinct-cons}
use Rattle.std.proofs.lemmas.Map.Made.{is_some-lookup}
use Rattle.std.proofs.lemmas.Map.Steps.{length-le_from_keys, list_any_congr}
use Rattle.std.proofs.lemmas.Map.Views.{any-filter_same}
use Rattle.origins.specs.declared.Origin.{Origin}
use Rattle.authority_book.specs.Origins.{is_same, is_there, without, first_repeated_after}
use Rattle.authority_book.proofs.OriginOrder.{same_laws}

all-filter : (P : Origin → Type 0) (keep : Origin → Bool) (xs : List Origin) → AllByRecursion P xs → AllByRecursion P (filter keep xs)
all-filter P keep [] all = tt
all-filter P keep (x ∷ xs) all =
    let rest = all-filter P keep xs all.1 in
    elim (keep x) as (λ b. AllByRecursion P (cond b (x ∷ filter keep xs) (filter keep xs))) [ true ↦ (all.0, rest) | false ↦ rest ]

pub distinct-filter : (keep : Origin → Bool) (xs : List Origin) → IsDistinct is_same xs → IsDistinct is_same (filter keep xs)
distinct-filter keep [] distinct = distinct
distinct-filter keep (x ∷ xs) distinct =
    let rest = distinct-filter keep xs (IsDistinct-tail is_same x xs distinct) in
    let others = all-filter (λ y. is_same x y ≡ false) keep xs (IsDistinct-head is_same x xs distinct) in
    elim (keep x) as (λ b. IsDistinct is_same (cond b (x ∷ filter keep xs) (filter keep xs)))
    [ true ↦ IsDistinct-cons is_same x (filter keep xs) others rest | false ↦ rest ]

-- An origin stands in what is left where it stood before and wasn't removed.
pub there-without : (xs removed : List Origin) (o : Origin) →
    is_there (without xs removed) o ≡ (not (is_there removed o) && is_there xs o)
there-without xs removed o =
    any-filter_same (is_same o) (λ k. not (is_there removed k)) (not (is_there removed o))
    (λ k same. ap not (sym (list_any_congr same_laws o k removed same))) xs

-- Where a test found nothing, it is false here, and finds nothing further on.
none_here : (b : Bool) (o : Origin) (rest : Option Origin) → cond b (Some o) rest ≡ None → (b ≡ false) × (rest ≡ None)
none_here true o rest none = absurd (cc)
none_here false o rest none = (refl, none)

-- An origin that isn't in one list nor in the other isn't in both together.
there-append_none : (xs ys : List Origin) (o : Origin) → is_there xs o ≡ false → is_there ys o ≡ false → is_there (xs ++ ys) o ≡ false
there-append_none xs ys o first second = list_any-append (is_same o) xs ys ∙ rw (first, second) refl

-- Adding origins that aren't kept, each once, leaves each origin once.
pub distinct-added : (kept earlier added : List Origin) (clash : Origin → Bool) →
    ((o : Origin) → clash o ≡ false → is_there kept o ≡ false) → IsDistinct is_same (kept ++ earlier) →
    first_repeated_after earlier added ≡ None → find clash added ≡ None → IsDistinct is_same ((kept ++ earlier) ++ added)
distinct-added kept earlier [] clash apart distinct once none = rw (append-nil (kept ++ earlier)) distinct
distinct-added kept earlier (a ∷ added) clash apart distinct once none =
    let fresh = none_here (is_there earlier a) a (first_repeated_after (earlier ++ a ∷ []) added) once in
    let unlike = none_here (clash a) a (find clash added) none in
    let Distinct : List Origin → Type 0 = λ l. IsDistinct is_same l in
    let joined = append_assoc kept earlier (a ∷ []) in
    let one_more : Distinct (kept ++ earlier ++ a ∷ []) =
    IsDistinct-push same_laws (kept ++ earlier) a distinct (there-append_none kept earlier a (apart a unlike.0) fresh.0) in
    let all = distinct-added kept (earlier ++ a ∷ []) added clash apart (subst Distinct joined one_more) fresh.1 unlike.1 in
    let regrouped : Distinct (kept ++ earlier ++ a ∷ [] ++ added) = subst (λ (l : List Origin). Distinct (l ++ added)) (sym joined) all in
    subst Distinct (append_assoc (kept ++ earlier) (a ∷ []) added) regrouped

-- ---- lists with the same members
paired : List Origin → List (Origin × Unit {0})
paired xs = map (λ o. (o, tt)) xs

keys-paired : (xs : List Origin) → keys_of (paired xs) ≡ xs
unfolding paired
keys-paired [] = refl
keys-paired (x ∷ xs) = ap (λ rest. x ∷ rest) (keys-paired xs)

length-paired : (xs : List Origin) → length (paired xs) ≡ length xs
unfolding paired
length-paired xs = length-map xs (λ o. (o, tt))

-- A list without repetition is no longer than one that has its members.
length-le : (xs ys : List Origin) → IsDistinct is_same xs → ((o : Origin) → is_there xs o ≡ is_there ys o) → length xs ≤ length ys
length-le xs ys distinct same =
    let found : (o : Origin) → is_there xs o ≡ true → IsSome (lookup (is_same o) (paired ys)) =
    λ o here. is_some-lookup (is_same o) (paired ys) ∙ (ap (λ l. is_there l o) (keys-paired ys) ∙ (sym (same o) ∙ here)) in
    rw (← length-paired ys) (length-le_from_keys same_laws xs (paired ys) distinct found)

-- Two lists with the same members, each once, are equally long.
pub length-same : (xs ys : List Origin) → IsDistinct is_same xs → IsDistinct is_same ys →
    ((o : Origin) → is_there xs o ≡ is_there ys o) → length xs ≡ length ys
length-same xs ys first second same =
    let there = length-le xs ys first same in
    let back = length-le ys xs second (λ o. sym (same o)) in
    omega arith
