-- A prefix and an origin are their numbers.
use mathlib.Core.HLevel.{is_prop→PathP}
use Rattle.std.specs.Prelude.{◌≡◌, ℕ, ◌<◌, ◌^◌, Bool}
use Rattle.std.proofs.Props.{props}
use Rattle.origins.specs.Prefix.{IsPrefix, IsMaximum}
use Rattle.origins.specs.declared.Prefix.{Prefix}
use Rattle.origins.specs.declared.Origin.{Origin}

prefix_prop : (v6 : Bool) (address len : ℕ) → IsProp (IsPrefix v6 address len)
prefix_prop v6 address len = hlevel props

maximum_prop : (v6 : Bool) (len max : ℕ) → IsProp (IsMaximum v6 len max)
maximum_prop v6 len max = hlevel props

number_prop : (asn : ℕ) → IsProp (asn < 2 ^ 32)
number_prop asn = hlevel props

pub same_prefix : (p q : Prefix) → p.v6 ≡ q.v6 → p.address ≡ q.address → p.length ≡ q.length → p ≡ q
same_prefix p q v6 address len = λ i. record {
  v6 = v6 i;
  address = address i;
  length = len i;
  prefix = is_prop→PathP (λ j. IsPrefix (v6 j) (address j) (len j))
      (λ j. prefix_prop (v6 j) (address j) (len j)) p.prefix q.prefix i;
}

pub same_origin : (o p : Origin) → o.prefix ≡ p.prefix → o.max ≡ p.max → o.asn ≡ p.asn → o ≡ p
same_origin o p prefix max asn = λ i. record {
  prefix = prefix i;
  max = max i;
  asn = asn i;
  maximum = is_prop→PathP (λ j. IsMaximum (prefix j).v6 (prefix j).length (max j))
      (λ j. maximum_prop (prefix j).v6 (prefix j).length (max j)) o.maximum p.maximum i;
  number = is_prop→PathP (λ j. asn j < 2 ^ 32) (λ j. number_prop (asn j)) o.number p.number i;
}
