-- The three sets of a holder of resources, family by family.
use Rattle.std.specs.Prelude.{◌≡◌, ℕ, Bool}
use Rattle.res_sets.specs.declared.numbers.Family.{Family}
use Rattle.res_sets.specs.declared.numbers.Family.TheVariants.{Asn, V4, V6}
use Rattle.res_sets.specs.Sets.{RangeSet, holds, no_numbers, IsEmpty, IsWhole, IsMeet, IsInside}
use Rattle.res_sets.specs.declared.holdings.Resources.{Resources}

-- The holder's set of the family.
abbrev pub set_of : Resources → Family → RangeSet
set_of resources Asn = resources.asn
set_of resources V4 = resources.v4
set_of resources V6 = resources.v6

-- Whether the holder has the number of the family.
abbrev pub has : Resources → Family → ℕ → Bool
has resources family n = holds (set_of resources family) n

-- The three sets without a number.
pub record HaveNone (none : Resources) : Type 0 where
  pub asn : none.asn ≡ no_numbers Asn
  pub v4 : none.v4 ≡ no_numbers V4
  pub v6 : none.v6 ≡ no_numbers V6

-- All has each number of each family.
pub record AreWhole (all : Resources) : Type 0 where
  pub asn : IsWhole Asn all.asn
  pub v4 : IsWhole V4 all.v4
  pub v6 : IsWhole V6 all.v6

-- Both has, family by family, the numbers that are in a and in b.
pub record AreMeets (a b both : Resources) : Type 0 where
  pub asn : IsMeet a.asn b.asn both.asn
  pub v4 : IsMeet a.v4 b.v4 both.v4
  pub v6 : IsMeet a.v6 b.v6 both.v6

-- Family by family, each number of a is in b.
pub record AreInside (a b : Resources) : Type 0 where
  pub asn : IsInside a.asn b.asn
  pub v4 : IsInside a.v4 b.v4
  pub v6 : IsInside a.v6 b.v6

-- No number is in any of the three.
pub record AreEmpty (a : Resources) : Type 0 where
  pub asn : IsEmpty a.asn
  pub v4 : IsEmpty a.v4
  pub v6 : IsEmpty a.v6
