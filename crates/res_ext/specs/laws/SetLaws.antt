-- A set's ranges are canonical exactly where the test of their ends says so.
use Rattle.std.proofs.Common.{◌≡◌, ℕ, ◌+◌, ◌<◌, ◌≤◌, Bool, true, false, Option, Some, None, ◌&&◌, ◌||◌, not, leb, ltb, List, [], ◌∷◌, map, refl, sym, ap, ◌∙◌, arith, ◌⊎◌, inl, inr}
use Rattle.std.proofs.lemmas.Bool.{and_from, and_parts, le-leb, leb-true, lt-ltb, ltb-true, or_left, or_right}
use Rattle.res_sets.specs.declared.numbers.Family.{Family}
use Rattle.res_sets.specs.declared.numbers.Range.{Range}
use Rattle.res_sets.specs.Numbers.{family_end, spans, any_spans, RisesFrom, AreCanonical}
use Rattle.der.specs.Forms.{AreAll}
use Rattle.res_sets.specs.declared.numbers.Family.TheVariants.{Asn, V4, V6}
use Rattle.res_ext.specs.Formats.{span_of, as_block, address_block, block, blocks, are_canonical, if_canonical, has_numbers}
use Rattle.std.specs.Prelude.{◌↔◌, IsSome, IfSome}
use Rattle.std.specs.Option.{option_map}
use Rattle.res_sets.specs.Sets.{RangeSet}

pub rises : (end low : ℕ) (ranges : List Range) → RisesFrom low ranges
    → ((n : ℕ) → any_spans ranges n ≡ true → n < end)
    → are_canonical end low (map span_of ranges) ≡ true
rises end low [] rise within = refl
rises end low (r ∷ rs) rise within =
    let ordered : r.first ≤ r.last = r.ordered in
    let here : spans r r.last ≡ true = and_from _ _ (le-leb r.first r.last ordered)
    (le-leb r.last r.last (omega arith)) in
    and_from _ _
    (and_from _ _ (and_from _ _ (le-leb low r.first rise.0) (le-leb r.first r.last ordered))
    (lt-ltb r.last end (within r.last (or_left _ _ here))))
    (rises end (r.last + 2) rs rise.1 (λ n has. within n (or_right _ _ has)))

pub canonical_tested : (family : Family) (ranges : List Range) → AreCanonical family ranges
    → are_canonical (family_end family) 0 (map span_of ranges) ≡ true
canonical_tested family ranges canonical = rises (family_end family) 0 ranges canonical.rise
    canonical.within

or-cases : (a b : Bool) → (a || b) ≡ true → (a ≡ true) ⊎ (b ≡ true)
or-cases true b e = inl refl
or-cases false b e = inr e

-- what the test says
pub record AreTested (end low : ℕ) (ranges : List Range) : Type 0 where
  pub rise : RisesFrom low ranges
  pub within : (n : ℕ) → any_spans ranges n ≡ true → n < end

pub tested-rises : (end low : ℕ) (ranges : List Range)
    → are_canonical end low (map span_of ranges) ≡ true → AreTested end low ranges
tested-rises end low [] e = record { rise = tt; within = λ n has. absurd (apart has) }
  where
    apart : false ≡ true → ⊥
    apart e = cc
tested-rises end low (r ∷ rs) e =
    let a = and_parts (leb low r.first && leb r.first r.last && ltb r.last end)
    (are_canonical end (r.last + 2) (map span_of rs)) e in
    let b = and_parts (leb low r.first && leb r.first r.last) (ltb r.last end) a.0 in
    let c = and_parts (leb low r.first) (leb r.first r.last) b.0 in
    let rest = tested-rises end (r.last + 2) rs a.1 in
    let last : r.last < end = ltb-true _ _ b.1 in
    record {
      rise = (leb-true _ _ c.0, rest.rise);
      within = λ n has. elim (or-cases (spans r n) (any_spans rs n) has) [
        | inl here ↦ let d = and_parts (leb r.first n) (leb n r.last) here in
            let le : n ≤ r.last = leb-true _ _ d.1 in omega (arith, le, last)
        | inr there ↦ rest.within n there
      ];
    }

pub tested_canonical : (family : Family) (ranges : List Range)
    → are_canonical (family_end family) 0 (map span_of ranges) ≡ true → AreCanonical family ranges
tested_canonical family ranges e = let t = tested-rises (family_end family) 0 ranges e in
    record { rise = t.rise; within = t.within }

-- A test that isn't passed.
pub not_canonical : (family : Family) (ranges : List Range) → (AreCanonical family ranges → ⊥)
    → are_canonical (family_end family) 0 (map span_of ranges) ≡ false
not_canonical family ranges not = test (are_canonical (family_end family) 0 (map span_of ranges))
    refl
  where
    test : (b : Bool) → are_canonical (family_end family) 0 (map span_of ranges) ≡ b
        → are_canonical (family_end family) 0 (map span_of ranges) ≡ false
    test true e = absurd (not (tested_canonical family ranges e))
    test false e = e

abbrev set_of : Family → List Range → RangeSet
set_of family ranges = record { family = family; ranges = ranges }

-- What was made of sorted ranges.
pub set_told : (family : Family) (ranges : List Range) (o : Option RangeSet)
    → (IsSome o ↔ AreCanonical family ranges) → IfSome o (λ set. set ≡ set_of family ranges)
    → option_map (λ set. map span_of set.ranges) o ≡ if_canonical family (map span_of ranges)
set_told family ranges None told value =
    rw (not_canonical family ranges (λ canonical. nothing (told.1 canonical))) refl
  where
    nothing : false ≡ true → ⊥
    nothing e = cc
set_told family ranges (Some set) told value = rw (canonical_tested family ranges (told.0 refl))
    (ap (λ (s : RangeSet). Some (map span_of s.ranges)) value)

some-told : (ranges : List Range) (b : Bool) → (b ≡ true → ranges ≡ []) → (ranges ≡ [] → b ≡ true)
    → not b ≡ has_numbers (Some (map span_of ranges))
some-told [] b there back = ap not (back refl)
some-told (r ∷ rs) true there back = absurd (apart (there refl))
  where
    apart : r ∷ rs ≡ [] → ⊥
    apart e = cc
some-told (r ∷ rs) false there back = refl

-- Whether a set that stands there has a number.
pub numbers_told : (set : RangeSet) (o : Option RangeSet) (b : Bool) → o ≡ Some set
    → (b ≡ true → set.ranges ≡ []) × (set.ranges ≡ [] → b ≡ true)
    → not b ≡ has_numbers (option_map (λ s. map span_of s.ranges) o)
numbers_told set o b is told = some-told set.ranges b told.0 told.1
    ∙ ap (λ (x : Option RangeSet). has_numbers (option_map (λ s. map span_of s.ranges) x))
    (sym is)

-- ---- a canonical list has a spelling

one-good : (family : Family) (span : ℕ × ℕ) → span.0 ≤ span.1 → span.1 < family_end family
    → (block family).good span
unfolding as_block address_block
one-good Asn span order below = (order, omega (arith, below))
one-good V4 span order below = (order, below)
one-good V6 span order below = (order, below)

all-good : (family : Family) (low : ℕ) (spans : List (ℕ × ℕ))
    → are_canonical (family_end family) low spans ≡ true
    → AreAll (block family).good spans
all-good family low [] e = tt
all-good family low (span ∷ spans) e =
    let a = and_parts (leb low span.0 && leb span.0 span.1 && ltb span.1 (family_end family))
    (are_canonical (family_end family) (span.1 + 2) spans) e in
    let b = and_parts (leb low span.0 && leb span.0 span.1) (ltb span.1 (family_end family)) a.0 in
    let c = and_parts (leb low span.0) (leb span.0 span.1) b.0 in (
      one-good family span (leb-true _ _ c.1) (ltb-true _ _ b.1),
      all-good family (span.1 + 2) spans a.1,
    )

pub canonical_good : (family : Family) (spans : List (ℕ × ℕ))
    → are_canonical (family_end family) 0 spans ≡ true
    → (blocks family).good spans
unfolding blocks
canonical_good family spans e = (all-good family 0 spans e, e)
