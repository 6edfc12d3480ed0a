-- One canonical list has the numbers of a set.
use Rattle.std.proofs.Common.{◌≡◌, ℕ, ◌+◌, ◌≤◌, List, [], ◌∷◌, refl, ap, sym, ◌∙◌, arith}
pub use Rattle.res_sets.specs.laws.SetLaws.{same_range}
use Rattle.std.proofs.lemmas.Bool.Decides.{nat_tests}
use Rattle.res_sets.specs.declared.numbers.Family.{Family}
use Rattle.res_sets.specs.declared.numbers.Range.{Range}
use Rattle.res_sets.specs.Numbers.{any_spans, RisesFrom}
use Rattle.res_sets.specs.Sets.{RangeSet, holds, IsCanonical}
use Rattle.res_sets.proofs.Lists.{any_spans-below, low_le, spans_first}

-- where the first list begins, the second has begun
first_le : (low_b : ℕ) (r s : Range) (rs ss : List Range) → RisesFrom low_b (s ∷ ss) → ((n : ℕ) → any_spans (r ∷ rs) n ≡ any_spans (s ∷ ss) n) → s.first ≤ r.first
first_le low_b r s rs ss rises same =
    let has = same r.first in
    let first = spans_first r in
    low_le s.first (s ∷ ss) r.first (omega arith, rises.1) (grind (arith, nat_tests, has, first))

-- two heads that begin alike end alike
last_le : (low_a low_b : ℕ) (r s : Range) (rs ss : List Range) → RisesFrom low_a (r ∷ rs) → RisesFrom low_b (s ∷ ss) → r.first ≡ s.first
    → ((n : ℕ) → any_spans (r ∷ rs) n ≡ any_spans (s ∷ ss) n) → s.last ≤ r.last
last_le low_a low_b r s rs ss rises_a rises_b first same =
    let has = same (r.last + 1) in
    let ordered : r.first ≤ r.last = r.ordered in
    let none = any_spans-below (r.last + 2) rs (r.last + 1) rises_a.1 (omega arith) in
    grind (arith, nat_tests, has, none)

-- behind two heads that are alike the lists have the same numbers
same_rest : (low_a low_b : ℕ) (r s : Range) (rs ss : List Range) → RisesFrom low_a (r ∷ rs) → RisesFrom low_b (s ∷ ss) → r.first ≡ s.first → r.last ≡ s.last
    → ((n : ℕ) → any_spans (r ∷ rs) n ≡ any_spans (s ∷ ss) n) → (n : ℕ) → any_spans rs n ≡ any_spans ss n
same_rest low_a low_b r s rs ss rises_a rises_b first last same n =
    let has = same n in
    let none_a = any_spans-below (r.last + 2) rs n rises_a.1 in
    let none_b = any_spans-below (s.last + 2) ss n rises_b.1 in
    grind (arith, nat_tests, has, none_a, none_b)

same_lists : (low_a low_b : ℕ) (a b : List Range) → RisesFrom low_a a → RisesFrom low_b b → ((n : ℕ) → any_spans a n ≡ any_spans b n) → a ≡ b
same_lists low_a low_b [] [] rises_a rises_b same = refl
same_lists low_a low_b [] (s ∷ ss) rises_a rises_b same =
    let has = same s.first in
    let first = spans_first s in
    absurd (grind (arith, nat_tests, has, first))
same_lists low_a low_b (r ∷ rs) [] rises_a rises_b same =
    let has = same r.first in
    let first = spans_first r in
    absurd (grind (arith, nat_tests, has, first))
same_lists low_a low_b (r ∷ rs) (s ∷ ss) rises_a rises_b same =
    let back : (n : ℕ) → any_spans (s ∷ ss) n ≡ any_spans (r ∷ rs) n = λ n. sym (same n) in
    let up = first_le low_b r s rs ss rises_b same in
    let down = first_le low_a s r ss rs rises_a back in
    let first : r.first ≡ s.first = omega (arith, up, down) in
    let last_up = last_le low_a low_b r s rs ss rises_a rises_b first same in
    let last_down = last_le low_b low_a s r ss rs rises_b rises_a (sym first) back in
    let last : r.last ≡ s.last = omega (arith, last_up, last_down) in
    let rest = same_lists (r.last + 2) (s.last + 2) rs ss rises_a.1 rises_b.1 (same_rest low_a low_b r s rs ss rises_a rises_b first last same) in
    ap (λ (x : Range). x ∷ rs) (same_range r s first last) ∙ ap (λ (x : List Range). s ∷ x) rest

abbrev set_of : Family → List Range → RangeSet
set_of family ranges = record { family = family; ranges = ranges }

pub same_sets : (a b : RangeSet) → IsCanonical a → IsCanonical b → a.family ≡ b.family → ((n : ℕ) → holds a n ≡ holds b n) → a ≡ b
same_sets a b canonical_a canonical_b family same =
    let ranges = same_lists 0 0 a.ranges b.ranges canonical_a.rise canonical_b.rise same in
    ap (λ f. set_of f a.ranges) family ∙ ap (λ (rs : List Range). set_of b.family rs) ranges
