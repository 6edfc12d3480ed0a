-- The first of rising numbers that is another one.
use Rattle.std.proofs.Common.{◌≡◌, ◌≢◌, ℕ, ◌+◌, ◌<◌, ◌≤◌, ◌==◌, ◌⊎◌, inl, inr, nat_lt, ltb, zero, suc}
use Rattle.std.proofs.Common.{Bool, true, false, cond, None, Some, List, [], ◌∷◌, length, get_or}
use Rattle.std.proofs.Common.{refl, sym, ap, subst, ◌∙◌, arith}
use Rattle.std.specs.List.{AllWithin, position_from}
use Rattle.std.specs.List.Sorted.{IsNonDecreasing, IsPartitionPoint}
use Rattle.std.specs.Option.{option_map}
use Rattle.std.proofs.lemmas.Bool.{ltb-true, ltb-false, cases_lt}
use Rattle.std.proofs.lemmas.Bool.Decides.{nat_tests}
use Rattle.std.proofs.lemmas.List.{get_or_read}
use Rattle.issue_drafts.specs.WorkKeys.{fresh_position}

pub below-test : (desks : List ℕ) (desk n : ℕ)
    → IsPartitionPoint (λ d. nat_lt d desk ≡ true) (λ d. nat_lt d desk ≡ false) desks n
    → AllWithin (λ d. d < desk) desks 0 n
below-test desks desk n point k d low high = ltb-true (get_or desks k d) desk (point.0 k d low high)

pub above-test : (desks : List ℕ) (desk n : ℕ)
    → IsPartitionPoint (λ d. nat_lt d desk ≡ true) (λ d. nat_lt d desk ≡ false) desks n
    → AllWithin (λ d. desk ≤ d) desks n (length desks)
above-test desks desk n point k d low high =
    let above : nat_lt (get_or desks k d) desk ≡ false = point.1 k d low high in
    grind (arith, nat_tests)

first-at : (desk n : ℕ) (xs : List ℕ) (at : ℕ)
    → at < length xs → ((k : ℕ) → k < at → get_or xs k 0 < desk) → get_or xs at 0 ≡ desk
    → position_from (λ d. d == desk) n xs ≡ Some (n + at)
first-at desk n [] at lt below is = absurd (omega arith)
first-at desk n (x ∷ xs) zero lt below is =
    let here : (x == desk) ≡ true = grind (arith, nat_tests) in
    let none : n ≡ n + 0 = omega arith in
    ap (λ (b : Bool). cond b (Some n) (position_from (λ d. d == desk) (n + 1) xs)) here
    ∙ ap (λ (m : ℕ). Some m) none
first-at desk n (x ∷ xs) (suc at) lt below is =
    let low : x < desk = below 0 (omega arith) in
    let other : (x == desk) ≡ false = grind (arith, nat_tests) in
    let more : (n + 1) + at ≡ n + suc at = omega arith in
    ap (λ (b : Bool). cond b (Some n) (position_from (λ d. d == desk) (n + 1) xs)) other
    ∙ (first-at desk (n + 1) xs at (omega arith) (λ k less. below (suc k) (omega arith)) is
    ∙ ap (λ (m : ℕ). Some m) more)

not-there : (desk n : ℕ) (xs : List ℕ)
    → ((k : ℕ) → k < length xs → get_or xs k 0 ≢ desk)
    → position_from (λ d. d == desk) n xs ≡ None
not-there desk n [] none = refl
not-there desk n (x ∷ xs) none =
    let apart : x ≢ desk = none 0 (omega arith) in
    let other : (x == desk) ≡ false = grind (arith, nat_tests) in
    ap (λ (b : Bool). cond b (Some n) (position_from (λ d. d == desk) (n + 1) xs)) other
    ∙ not-there desk (n + 1) xs (λ k less. none (suc k) (omega arith))

-- The number stands there, and those before it are below it.
pub fresh-there : (desks : List ℕ) (first desk at : ℕ)
    → at < length desks → AllWithin (λ d. d < desk) desks 0 at → get_or desks at 0 ≡ desk
    → Some (first + at) ≡ fresh_position desks first desk
fresh-there desks first desk at lt below is =
    let e : 0 + at ≡ at = omega arith in
    sym (ap (option_map (λ (k : ℕ). first + k))
    (first-at desk 0 desks at lt (λ k less. below k 0 (omega arith) less) is)
    ∙ ap (λ (k : ℕ). Some (first + k)) e)

-- Those before that position are below the number, and those from it on above it.
pub fresh-none : (desks : List ℕ) (first desk at : ℕ)
    → IsNonDecreasing desks → AllWithin (λ d. d < desk) desks 0 at
    → AllWithin (λ d. desk ≤ d) desks at (length desks)
    → (at < length desks → get_or desks at 0 ≢ desk)
    → None ≡ fresh_position desks first desk
fresh-none desks first desk at rising below above other =
    sym (ap (option_map (λ (k : ℕ). first + k)) (not-there desk 0 desks (λ k lt. apart k lt (cases_lt k at))))
  where
    apart : (k : ℕ) → k < length desks → (k < at) ⊎ (at ≤ k) → get_or desks k 0 ≢ desk
    apart k lt (inl low) =
        let less : get_or desks k 0 < desk = below k 0 (omega arith) low in
        omega arith
    apart k lt (inr high) =
        let inside : at < length desks = omega arith in
        let here : get_or desks at 0 ≢ desk = other inside in
        let from : desk ≤ get_or desks at 0 = above at 0 (omega arith) inside in
        let more : get_or desks at 0 ≤ get_or desks k 0 = rising at k 0 high lt in
        omega arith

-- ---- the same of lists that are equal to these

pub position-there : (desks one two : List ℕ) (first desk at found : ℕ)
    → one ≡ desks → two ≡ desks
    → at < length two → found ≡ get_or two at found → found ≡ desk
    → (IsNonDecreasing one → AllWithin (λ d. d < desk) one 0 at) → IsNonDecreasing desks
    → Some (first + at) ≡ fresh_position desks first desk
position-there desks one two first desk at found e f inside is same below rising =
    let low : AllWithin (λ d. d < desk) desks 0 at =
    subst (λ (l : List ℕ). IsNonDecreasing l → AllWithin (λ d. d < desk) l 0 at) e below rising in
    let lt : at < length desks = subst (λ (l : List ℕ). at < length l) f inside in
    let here : found ≡ get_or desks at found = subst (λ (l : List ℕ). found ≡ get_or l at found) f is in
    fresh-there desks first desk at lt low (sym (get_or_read desks at found lt here 0) ∙ same)

pub position-none : (desks one : List ℕ) (first desk at : ℕ)
    → one ≡ desks
    → (IsNonDecreasing one → AllWithin (λ d. d < desk) one 0 at)
    → (IsNonDecreasing one → AllWithin (λ d. desk ≤ d) one at (length one)) → IsNonDecreasing desks
    → (at < length desks → get_or desks at 0 ≢ desk)
    → None ≡ fresh_position desks first desk
position-none desks one first desk at e below above rising other =
    fresh-none desks first desk at rising
    (subst (λ (l : List ℕ). IsNonDecreasing l → AllWithin (λ d. d < desk) l 0 at) e below rising)
    (subst (λ (l : List ℕ). IsNonDecreasing l → AllWithin (λ d. desk ≤ d) l at (length l)) e above rising)
    other

pub not-here : (desks two : List ℕ) (desk at found : ℕ)
    → two ≡ desks → found ≡ get_or two at found → found ≢ desk
    → at < length desks → get_or desks at 0 ≢ desk
not-here desks two desk at found f is apart lt same =
    let here : found ≡ get_or desks at found = subst (λ (l : List ℕ). found ≡ get_or l at found) f is in
    apart (get_or_read desks at found lt here 0 ∙ same)

pub past-end : (desks two : List ℕ) (desk at : ℕ) (there : Bool)
    → two ≡ desks → there ≡ ltb at (length two) → there ≡ false
    → at < length desks → get_or desks at 0 ≢ desk
past-end desks two desk at there f says none lt =
    let le : length two ≤ at = ltb-false at (length two) (sym says ∙ none) in
    let e : length two ≡ length desks = ap length f in
    absurd (omega arith)
