-- Lists of ranges that rise, and the numbers that they have.
use Rattle.std.proofs.Common.{◌≡◌, ℕ, ◌+◌, ◌<◌, ◌≤◌, ◌||◌, Bool, true, false, max, List, [], ◌∷◌, ◌++◌, length, ◌==◌, ◌↔◌, refl, ap, sym, subst, arith}
use Rattle.std.proofs.lemmas.Bool.{false≢true}
use Rattle.std.proofs.lemmas.Bool.Decides.{nat_tests}
use Rattle.res_sets.specs.declared.numbers.Range.{Range}
use Rattle.res_sets.specs.Numbers.{spans, any_spans, RisesFrom}
use Rattle.res_sets.specs.Merging.{room_from, last_first}
pub use Rattle.res_sets.specs.laws.SetLaws.{any_spans-push, RisesFrom-push, RisesFrom-front}

pub RisesFrom-weaker : (low lower : ℕ) (ranges : List Range) → lower ≤ low → RisesFrom low ranges → RisesFrom lower ranges
RisesFrom-weaker low lower [] below rises = rises
RisesFrom-weaker low lower (r ∷ rs) below rises = (omega arith, rises.1)

-- nothing is below where the ranges begin
pub any_spans-below : (low : ℕ) (ranges : List Range) (n : ℕ) → RisesFrom low ranges → n < low → any_spans ranges n ≡ false
any_spans-below low [] n rises below = refl
any_spans-below low (r ∷ rs) n rises below =
    let ordered : r.first ≤ r.last = r.ordered in
    let rest : any_spans rs n ≡ false = any_spans-below (r.last + 2) rs n rises.1 (omega arith) in
    grind (arith, nat_tests)

pub low_le : (low : ℕ) (ranges : List Range) (n : ℕ) → RisesFrom low ranges → any_spans ranges n ≡ true → low ≤ n
low_le low ranges n rises has = grind (arith, any_spans-below low ranges n rises)

pub room_from-push : (low : ℕ) (xs : List Range) (x : Range) → room_from low (xs ++ x ∷ []) ≡ x.last + 2
room_from-push low [] x = refl
room_from-push low (r ∷ rs) x = room_from-push (r.last + 2) rs x

pub last_first-push : (xs : List Range) (x : Range) → last_first (xs ++ x ∷ []) ≡ x.first
last_first-push [] x = refl
last_first-push (r ∷ []) x = refl
last_first-push (r ∷ s ∷ rs) x = last_first-push (s ∷ rs) x

-- a last range that is put in the place of one that begins as it does
pub RisesFrom-hull : (low : ℕ) (xs : List Range) (last both : Range) → RisesFrom low (xs ++ last ∷ []) → both.first ≡ last.first → RisesFrom low (xs ++ both ∷ [])
RisesFrom-hull low xs last both rises same =
    let front = RisesFrom-front low xs last rises in
    let room : room_from low xs ≤ both.first = omega (arith, front.1) in
    RisesFrom-push low xs both front.0 room

pub any_spans-hull : (xs : List Range) (last range both : Range) (n : ℕ) → both.first ≡ last.first → both.last ≡ max last.last range.last
    → last.first ≤ range.first → range.first ≤ last.last + 1
    → any_spans (xs ++ both ∷ []) n ≡ (any_spans (xs ++ last ∷ []) n || spans range n)
any_spans-hull xs last range both n first last_is behind touch =
    let ordered : last.first ≤ last.last = last.ordered in
    grind (arith, nat_tests, any_spans-push xs both n, any_spans-push xs last n)

pub RisesFrom-apart : (low : ℕ) (xs : List Range) (last range : Range) → RisesFrom low (xs ++ last ∷ []) → last.last + 1 < range.first → RisesFrom low ((xs ++ last ∷ []) ++ range ∷ [])
RisesFrom-apart low xs last range rises apart =
    let room : room_from low (xs ++ last ∷ []) ≤ range.first = omega (arith, room_from-push low xs last) in
    RisesFrom-push low (xs ++ last ∷ []) range rises room

pub RisesFrom-tail : (low : ℕ) (a rest : List Range) (r : Range) → a ≡ r ∷ rest → RisesFrom low a → RisesFrom (r.last + 2) rest
RisesFrom-tail low a rest r is rises =
    let at_head : RisesFrom low (r ∷ rest) = subst (λ (x : List Range). RisesFrom low x) is rises in
    at_head.1

-- behind its head a list goes on from where the head begins, or later
pub RisesFrom-rest : (low : ℕ) (a rest : List Range) (r : Range) → a ≡ r ∷ rest → RisesFrom low a → RisesFrom r.first rest
RisesFrom-rest low a rest r is rises =
    let ordered : r.first ≤ r.last = r.ordered in
    RisesFrom-weaker (r.last + 2) r.first rest (omega arith) (RisesFrom-tail low a rest r is rises)

pub any_spans-head : (a rest : List Range) (r : Range) (n : ℕ) → a ≡ r ∷ rest → any_spans a n ≡ (spans r n || any_spans rest n)
any_spans-head a rest r n is = ap (λ (x : List Range). any_spans x n) is

pub RisesFrom-at_head : (low from : ℕ) (a rest : List Range) (r : Range) → a ≡ r ∷ rest → RisesFrom low a → from ≤ r.first → RisesFrom from a
RisesFrom-at_head low from a rest r is rises le =
    let at_head : RisesFrom from (r ∷ rest) = (le, RisesFrom-tail low a rest r is rises) in
    subst (λ (x : List Range). RisesFrom from x) (sym is) at_head

pub RisesFrom-none : (from : ℕ) (a : List Range) → length a ≡ 0 → RisesFrom from a
RisesFrom-none from [] none = tt
RisesFrom-none from (r ∷ rs) none = absurd (omega arith)

pub spans_first : (r : Range) → spans r r.first ≡ true
spans_first r = let ordered : r.first ≤ r.last = r.ordered in grind (arith, nat_tests)

-- ranges have numbers
pub none_iff_nil : (xs : List Range) (b : Bool) → b ≡ (length xs == 0) → (b ≡ true) ↔ ((n : ℕ) → any_spans xs n ≡ true → ⊥)
none_iff_nil [] b is = (λ _ n has. absurd (false≢true has), λ _. is)
none_iff_nil (r ∷ rs) b is =
    let first = spans_first r in
    (λ yes. absurd (grind (arith, nat_tests, is, yes)), λ none. absurd (none r.first (grind (arith, nat_tests, first))))
