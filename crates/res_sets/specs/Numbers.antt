-- Numbers of a family, and the numbers that ranges have (RFC 3779 sections 2 and 3).
use Rattle.std.specs.Prelude.{ℕ, ◌+◌, ◌^◌, ◌<◌, ◌≤◌, Bool, ◌&&◌, nat_le, IsTrue, List, [], ◌∷◌, ⊤}
use Rattle.std.specs.List.{list_any}
use Rattle.res_sets.specs.declared.numbers.Family.{Family}
use Rattle.res_sets.specs.declared.numbers.Family.TheVariants.{Asn, V4, V6}
use Rattle.res_sets.specs.declared.numbers.Range.{Range}

-- The family's numbers are those below: AS numbers (RFC 6793) and IPv4 addresses have 32 bits, IPv6
-- addresses 128.
abbrev pub family_end : Family → ℕ
family_end Asn = 2 ^ 32
family_end V4 = 2 ^ 32
family_end V6 = 2 ^ 128

-- whether the range has the number
abbrev pub spans : Range → ℕ → Bool
spans range n = nat_le range.first n && nat_le n range.last

-- whether one of the ranges has the number
abbrev pub any_spans : List Range → ℕ → Bool
any_spans ranges n = list_any (λ range. spans range n) ranges

-- The ranges rise from a number on, and before each next one at least one number is left out.
abbrev pub RisesFrom : ℕ → List Range → Type 0
RisesFrom low [] = ⊤
RisesFrom low (range ∷ ranges) = (low ≤ range.first) × RisesFrom (range.last + 2) ranges

-- The canonical list of ranges of a family (RFC 3779 sections 2.2.3.6 and 3.2.3.4): sorted, neither
-- overlapping nor adjacent, and all of the family.
pub record AreCanonical (family : Family) (ranges : List Range) : Type 0 where
  pub rise : RisesFrom 0 ranges
  pub within : (n : ℕ) → IsTrue (any_spans ranges n) → n < family_end family
