-- Lists without some origins, and how many are left.
use Rattle.std.proofs.Common.{◌≡◌, ℕ, ◌+◌, ◌<◌, zero, suc, Bool, true, false, refl, sym, ◌∙◌, ap, subst, arith, length, get_or, take, List, [], ◌∷◌, ◌++◌, cond}
use Rattle.std.specs.Prelude.{Option, None, Some, not, ◌&&◌, ◌||◌, find, filter, remove}
use Rattle.std.specs.List.{IsDistinct, AllByRecursion}
use Rattle.std.proofs.lemmas.List.{take_more, append-nil, length-append}
use Rattle.std.proofs.lemmas.List.Folds.{list_any-append}
use Rattle.std.proofs.lemmas.Map.Keys.{IsDistinct-head, IsDistinct-tail}
use Rattle.std.proofs.lemmas.Map.Steps.{list_any_congr}
use Rattle.origins.specs.declared.Origin.{Origin}
use Rattle.authority_book.specs.Origins.{is_same, is_there, without, first_repeated}
use Rattle.authority_book.specs.Verdict.{missing}
use Rattle.authority_book.proofs.OriginOrder.{same_laws, same_back}
use Rattle.authority_book.proofs.Distinct.{distinct-filter, distinct-added, there-without, length-same}

-- ---- one origin less
or-false : (b : Bool) → (b || false) ≡ b
or-false true = refl
or-false false = refl

-- What isn't in a list leaves it as it is.
pub without_absent : (xs : List Origin) (o : Origin) → is_there xs o ≡ false → without xs (o ∷ []) ≡ xs
without_absent [] o absent = refl
without_absent (x ∷ xs) o absent = by_test (is_same o x) refl (without_absent xs o)
  where
    by_test : (b : Bool) → is_same o x ≡ b → (is_there xs o ≡ false → without xs (o ∷ []) ≡ xs) → without (x ∷ xs) (o ∷ []) ≡ x ∷ xs
    by_test true same further = let bad = rw same at absent in absurd (cc)
    by_test false other further =
        let rest : is_there xs o ≡ false = rw other at absent in
        let keep : not (is_there (o ∷ []) x) ≡ true = ap not (or-false (is_same x o) ∙ (same_back x o ∙ other)) in
        ap (λ b. cond b (x ∷ without xs (o ∷ [])) (without xs (o ∷ []))) keep ∙ ap (λ l. x ∷ l) (further rest)

absent_from_apart : (x : Origin) (xs : List Origin) → AllByRecursion (λ y. is_same x y ≡ false) xs → is_there xs x ≡ false
absent_from_apart x [] apart = refl
absent_from_apart x (y ∷ ys) apart = rw (apart.0, absent_from_apart x ys apart.1) refl

apart_at : (x : Origin) (xs : List Origin) (i : ℕ) (d : Origin) → AllByRecursion (λ y. is_same x y ≡ false) xs → i < length xs →
    is_same x (get_or xs i d) ≡ false
apart_at x [] i d apart within = absurd (omega arith)
apart_at x (y ∷ ys) zero d apart within = apart.0
apart_at x (y ∷ ys) (suc i) d apart within = apart_at x ys i d apart.1 (omega arith)

-- The list without the origin at a place.
pub without_at : (xs : List Origin) (i : ℕ) (o : Origin) → IsDistinct is_same xs → i < length xs → get_or xs i o ≡ o →
    remove xs i ≡ without xs (o ∷ [])
without_at [] i o distinct within is = absurd (omega arith)
without_at (x ∷ xs) zero o distinct within is =
    let absent : is_there xs o ≡ false = subst (λ (z : Origin). is_there xs z ≡ false) is (absent_from_apart x xs (IsDistinct-head is_same x xs distinct)) in
    let drop_it : not (is_there (o ∷ []) x) ≡ false = ap not (or-false (is_same x o) ∙ (ap (λ (z : Origin). is_same z o) is ∙ same_laws.refl o)) in
    sym (ap (λ b. cond b (x ∷ without xs (o ∷ [])) (without xs (o ∷ []))) drop_it ∙ without_absent xs o absent)
without_at (x ∷ xs) (suc i) o distinct within is =
    let rest = without_at xs i o (IsDistinct-tail is_same x xs distinct) (omega arith) is in
    let other : is_same x o ≡ false = subst (λ (z : Origin). is_same x z ≡ false) is (apart_at x xs i o (IsDistinct-head is_same x xs distinct) (omega arith)) in
    let keep : not (is_there (o ∷ []) x) ≡ true = ap not (or-false (is_same x o) ∙ other) in
    ap (λ l. x ∷ l) rest ∙ sym (ap (λ b. cond b (x ∷ without xs (o ∷ [])) (without xs (o ∷ []))) keep)

-- ---- some origins less
pub without_none : (xs : List Origin) → without xs [] ≡ xs
without_none [] = refl
without_none (x ∷ xs) = ap (λ l. x ∷ l) (without_none xs)

filter_twice : (p q r : Origin → Bool) → ((o : Origin) → r o ≡ (p o && q o)) → (xs : List Origin) → filter r xs ≡ filter q (filter p xs)
filter_twice p q r both [] = refl
filter_twice p q r both (x ∷ xs) = by_test (p x) (q x) refl refl (filter_twice p q r both xs)
  where
    by_test : (a b : Bool) → p x ≡ a → q x ≡ b → filter r xs ≡ filter q (filter p xs) → filter r (x ∷ xs) ≡ filter q (filter p (x ∷ xs))
    by_test true true first second rest = rw (both x, first, second) (ap (λ l. x ∷ l) rest)
    by_test true false first second rest = rw (both x, first, second) rest
    by_test false b first second rest = rw (both x, first) rest

not_or : (a b : Bool) → not (a || b) ≡ (not a && not b)
not_or true b = refl
not_or false b = refl

without-append : (xs removed more : List Origin) → without xs (removed ++ more) ≡ without (without xs removed) more
without-append xs removed more =
    filter_twice (λ o. not (is_there removed o)) (λ o. not (is_there more o)) (λ o. not (is_there (removed ++ more) o))
    (λ o. ap not (list_any-append (is_same o) removed more) ∙ not_or (is_there removed o) (is_there more o)) xs

-- The next of some origins less.
pub without-next : (xs removed : List Origin) (i : ℕ) (x : Origin) → i < length removed → x ≡ get_or removed i x →
    without xs (take (i + 1) removed) ≡ without (without xs (take i removed)) (x ∷ [])
without-next xs removed i x within is =
    ap (λ l. without xs l) (take_more removed i x within ∙ ap (λ (y : Origin). take i removed ++ y ∷ []) (sym is))
    ∙ without-append xs (take i removed) (x ∷ [])

-- ---- how many are left
-- Where a search finds nothing, the first fails the test, and nothing is found further on.
none_first : (b : Bool) (o : Origin) (rest : Option Origin) → cond b (Some o) rest ≡ None → (b ≡ false) × (rest ≡ None)
none_first true o rest none = absurd (cc)
none_first false o rest none = (refl, none)

from_not : (b : Bool) → not b ≡ false → b ≡ true
from_not true h = refl
from_not false h = absurd (cc)

-- Each of the removed is configured, where none is missing.
pub there_from_removed : (configured removed : List Origin) → missing configured removed ≡ None → (o : Origin) →
    is_there removed o ≡ true → is_there configured o ≡ true
there_from_removed configured [] none o there = absurd (cc)
there_from_removed configured (r ∷ removed) none o there =
    let here = none_first (not (is_there configured r)) r (missing configured removed) none in
    by_test (is_same o r) refl (from_not (is_there configured r) here.0) (there_from_removed configured removed here.1 o)
  where
    by_test : (b : Bool) → is_same o r ≡ b → is_there configured r ≡ true → (is_there removed o ≡ true → is_there configured o ≡ true) →
        is_there configured o ≡ true
    by_test true same first further = list_any_congr same_laws o r configured same ∙ first
    by_test false other first further = further (rw other at there)

-- None of the removed is left.
gone : (configured removed : List Origin) (o : Origin) → is_there removed o ≡ true → is_there (without configured removed) o ≡ false
gone configured removed o there = there-without configured removed o ∙ ap (λ b. not b && is_there configured o) there

find_none : (test : Origin → Bool) (xs : List Origin) → ((o : Origin) → is_there xs o ≡ true → test o ≡ false) → find test xs ≡ None
find_none test [] fails = refl
find_none test (x ∷ xs) fails =
    let here : test x ≡ false = fails x (ap (λ b. b || is_there xs x) (same_laws.refl x)) in
    let rest = find_none test xs (λ o there. fails o (ap (λ b. is_same o x || b) there ∙ or-true (is_same o x))) in
    ap (λ b. cond b (Some x) (find test xs)) here ∙ rest
  where
    or-true : (b : Bool) → (b || true) ≡ true
    or-true true = refl
    or-true false = refl

back_together : (there_removed there_configured : Bool) → (there_removed ≡ true → there_configured ≡ true) →
    ((not there_removed && there_configured) || there_removed) ≡ there_configured
back_together true true within = refl
back_together true false within = sym (within refl)
back_together false true within = refl
back_together false false within = refl

-- What is left and what was removed are together as many as there were.
pub length-without : (configured removed : List Origin) → IsDistinct is_same configured → first_repeated removed ≡ None →
    missing configured removed ≡ None → length (without configured removed) + length removed ≡ length configured
length-without configured removed distinct once none =
    let kept = without configured removed in
    let Distinct : List Origin → Type 0 = λ l. IsDistinct is_same l in
    let start : Distinct (kept ++ []) = subst Distinct (sym (append-nil kept)) (distinct-filter (λ o. not (is_there removed o)) configured distinct) in
    let clear = find_none (λ o. is_there kept o) removed (λ o there. gone configured removed o there) in
    let all = distinct-added kept [] removed (λ o. is_there kept o) (λ o free. free) start once clear in
    let joined : Distinct (kept ++ removed) = subst (λ (l : List Origin). Distinct (l ++ removed)) (append-nil kept) all in
    let members : (o : Origin) → is_there (kept ++ removed) o ≡ is_there configured o =
    λ o. list_any-append (is_same o) kept removed
    ∙ (ap (λ b. b || is_there removed o) (there-without configured removed o)
    ∙ back_together (is_there removed o) (is_there configured o) (there_from_removed configured removed none o)) in
    sym (length-append kept removed) ∙ length-same (kept ++ removed) configured joined distinct members
