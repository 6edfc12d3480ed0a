-- Sets of numbers of one family, said of their members (RFC 3779 sections 2 and 3).
use Rattle.std.specs.Prelude.{◌≡◌, ℕ, ◌<◌, ◌≤◌, Bool, ◌&&◌, ◌||◌, not, nat_lt, IsTrue, List, [], ◌∷◌, ◌++◌}
use Rattle.res_sets.specs.declared.numbers.Family.{Family}
use Rattle.res_sets.specs.declared.numbers.Range.{Range}
use Rattle.res_sets.specs.Numbers.{family_end, any_spans, AreCanonical}
use Rattle.res_sets.specs.Merging.{room_from}

-- What contracts see of a `Ranges`.
pub record RangeSet : Type 0 where
  pub family : Family
  pub ranges : List Range

-- whether the number is a member
abbrev pub holds : RangeSet → ℕ → Bool
holds set n = any_spans set.ranges n

abbrev pub IsCanonical : RangeSet → Type 0
IsCanonical set = AreCanonical set.family set.ranges

-- The set of a family that has no number.
abbrev pub no_numbers : Family → RangeSet
no_numbers family = record { family = family; ranges = [] }

-- The range goes behind those of the set: it is of the family, and at least one number is left out
-- between the last range, if any, and this one.
pub record GoesBehind (set : RangeSet) (range : Range) : Type 0 where
  pub apart : room_from 0 set.ranges ≤ range.first
  pub within : range.last < family_end set.family

-- The set with one more range behind its own.
abbrev pub with_range : RangeSet → Range → RangeSet
with_range set range = record set { ranges = set.ranges ++ range ∷ [] }

-- No number is a member.
abbrev pub IsEmpty : RangeSet → Type 0
IsEmpty set = (n : ℕ) → ¬ IsTrue (holds set n)

-- Whole has each number of the family.
pub record IsWhole (numbers : Family) (whole : RangeSet) : Type 0 where
  pub family : whole.family ≡ numbers
  pub members : (n : ℕ) → holds whole n ≡ nat_lt n (family_end numbers)
  pub canonical : IsCanonical whole

-- Both has the numbers that are in a and in b.
pub record IsMeet (a b both : RangeSet) : Type 0 where
  pub family : both.family ≡ a.family
  pub members : (n : ℕ) → holds both n ≡ (holds a n && holds b n)
  pub canonical : IsCanonical both

-- Either has the numbers that are in a or in b.
pub record IsJoin (a b either : RangeSet) : Type 0 where
  pub family : either.family ≡ a.family
  pub members : (n : ℕ) → holds either n ≡ (holds a n || holds b n)
  pub canonical : IsCanonical either

-- Rest has the numbers that are in a and not in b.
pub record IsMinus (a b rest : RangeSet) : Type 0 where
  pub family : rest.family ≡ a.family
  pub members : (n : ℕ) → holds rest n ≡ (holds a n && not (holds b n))
  pub canonical : IsCanonical rest

-- Each number of a is in b.
abbrev pub IsInside : RangeSet → RangeSet → Type 0
IsInside a b = (n : ℕ) → IsTrue (holds a n) → IsTrue (holds b n)

-- All has the numbers that one of the ranges has.
pub record IsJoinOf (numbers : Family) (ranges : List Range) (all : RangeSet) : Type 0 where
  pub family : all.family ≡ numbers
  pub members : (n : ℕ) → holds all n ≡ any_spans ranges n
  pub canonical : IsCanonical all
