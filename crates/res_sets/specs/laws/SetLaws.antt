-- What others may cite of ranges and of canonical lists of them.
use Rattle.std.proofs.Common.{◌≡◌, ℕ, ◌+◌, ◌-◌, ◌*◌, ◌/◌, ◌%◌, ◌^◌, ◌<◌, ◌≤◌, ◌||◌, List, [], ◌∷◌, ◌++◌, ap, sym, subst, ◌∙◌, arith}
use mathlib.Core.HLevel.{is_prop→PathP}
use Rattle.std.specs.Coded.{le_prop}
use Rattle.std.proofs.Props.{props}
use Rattle.std.proofs.Math.Nat.{mul-le-mul_right, div-add-mod}
use Rattle.std.proofs.lemmas.Bool.Decides.{nat_tests}
use Rattle.std.proofs.lemmas.Nat.{pow-add, shr_below}
use Rattle.res_sets.specs.declared.holdings.Resources.{Resources}
use Rattle.res_sets.specs.declared.numbers.Family.{Family}
use Rattle.res_sets.specs.declared.numbers.Family.TheVariants.{Asn, V4, V6}
use Rattle.res_sets.specs.declared.numbers.Range.{Range}
use Rattle.res_sets.specs.Numbers.{family_end, spans, any_spans, RisesFrom}
use Rattle.res_sets.specs.Merging.{room_from}
use Rattle.res_sets.specs.Sets.{RangeSet, IsCanonical, GoesBehind, with_range}

abbrev range_of : (first last : ℕ) → first ≤ last → Range
range_of first last ordered = record { first = first; last = last; ordered = ordered }

-- a range is what its ends are
made_alike : (f l : ℕ) (h : f ≤ l) (g m : ℕ) → f ≡ g → l ≡ m → (k : g ≤ m) → range_of f l h ≡ range_of g m k
made_alike f l h g m first last =
    subst (λ (x : ℕ). (k : x ≤ m) → range_of f l h ≡ range_of x m k) first
    (subst (λ (y : ℕ). (k : f ≤ y) → range_of f l h ≡ range_of f y k) last (λ k. ap (range_of f l) (le_prop h k)))

pub same_range : (r s : Range) → r.first ≡ s.first → r.last ≡ s.last → r ≡ s
same_range r s first last = made_alike r.first r.last r.ordered s.first s.last first last s.ordered

family_prop : (f g : Family) → IsProp (f ≡ g)
family_prop f g = hlevel props

-- resources are what their sets are
pub same_resources : (g h : Resources) → g.asn ≡ h.asn → g.v4 ≡ h.v4 → g.v6 ≡ h.v6 → g ≡ h
same_resources g h a b d = λ i. record {
  asn = a i;
  v4 = b i;
  v6 = d i;
  asn_family =
      is_prop→PathP (λ j. (a j).family ≡ Asn) (λ j. family_prop (a j).family Asn)
      g.asn_family h.asn_family i;
  v4_family =
      is_prop→PathP (λ j. (b j).family ≡ V4) (λ j. family_prop (b j).family V4)
      g.v4_family h.v4_family i;
  v6_family =
      is_prop→PathP (λ j. (d j).family ≡ V6) (λ j. family_prop (d j).family V6)
      g.v6_family h.v6_family i;
}

-- a multiple of a smaller power of two leaves room for that power
pub room_above : (n k b : ℕ) → k ≤ b → n < 2 ^ b → n % 2 ^ k ≡ 0 → n + 2 ^ k ≤ 2 ^ b
room_above n k b le below multiple =
    let b_is : (b - k) + k ≡ b = omega arith in
    let split : 2 ^ b ≡ 2 ^ (b - k) * 2 ^ k = sym (ap (λ (m : ℕ). 2 ^ m) b_is) ∙ pow-add 2 (b - k) k in
    let quotient : n / 2 ^ k < 2 ^ (b - k) = shr_below n (b - k) k (subst (λ (m : ℕ). n < 2 ^ m) (sym b_is) below) in
    let times : (n / 2 ^ k + 1) * 2 ^ k ≤ 2 ^ (b - k) * 2 ^ k = mul-le-mul_right (2 ^ k) (omega arith) in
    let whole = div-add-mod n (2 ^ k) in
    omega (arith, times, whole, split, multiple)

pub any_spans-push : (xs : List Range) (x : Range) (n : ℕ) → any_spans (xs ++ x ∷ []) n ≡ (any_spans xs n || spans x n)
any_spans-push [] x n = grind (arith, nat_tests)
any_spans-push (r ∷ rs) x n = grind (arith, nat_tests, any_spans-push rs x n)

pub RisesFrom-push : (low : ℕ) (xs : List Range) (x : Range) → RisesFrom low xs → room_from low xs ≤ x.first → RisesFrom low (xs ++ x ∷ [])
RisesFrom-push low [] x rises room = (room, tt)
RisesFrom-push low (r ∷ rs) x rises room = (rises.0, RisesFrom-push (r.last + 2) rs x rises.1 room)

-- what rises up to its last range
pub RisesFrom-front : (low : ℕ) (xs : List Range) (x : Range) → RisesFrom low (xs ++ x ∷ []) → RisesFrom low xs × (room_from low xs ≤ x.first)
RisesFrom-front low [] x rises = (tt, rises.0)
RisesFrom-front low (r ∷ rs) x rises =
    let rest = RisesFrom-front (r.last + 2) rs x rises.1 in ((rises.0, rest.0), rest.1)

-- A canonical set with a range that goes behind its own is canonical.
pub canonical_with : (set : RangeSet) (range : Range) → IsCanonical set → GoesBehind set range → IsCanonical (with_range set range)
canonical_with set range canonical behind = record {
  rise = RisesFrom-push 0 set.ranges range canonical.rise behind.apart;
  within = λ n has.
      let whole = any_spans-push set.ranges range n in
      let before = canonical.within n in
      let last : range.last < family_end set.family = behind.within in
      grind (arith, nat_tests, whole, before);
}

-- The last range of a canonical set goes behind the others, which are canonical too.
pub canonical_without : (set : RangeSet) (range : Range) → IsCanonical (with_range set range) → IsCanonical set × GoesBehind set range
canonical_without set range canonical =
    let front = RisesFrom-front 0 set.ranges range canonical.rise in
    let ordered : range.first ≤ range.last = range.ordered in
    let at_last = canonical.within range.last in
    let has_last = any_spans-push set.ranges range range.last in (
      record {
        rise = front.0;
        within = λ n has.
            let whole = any_spans-push set.ranges range n in
            let all = canonical.within n in
            grind (arith, nat_tests, whole, all);
      },
      record { apart = front.1; within = grind (arith, nat_tests, at_last, has_last) },
    )
