-- The grammar of an origin's text, as `10.0.0.0/16-24 => 64496`. Addresses are in the texts of
-- RFC 5952 and of dotted decimal, AS numbers in that of RFC 5396.
use Rattle.std.specs.Prelude.{◌≡◌, ℕ, ◌≤◌, ◌⊎◌, Bool, true, false, List, ◌++◌, Option, Some, None, codes}
use Rattle.std.specs.List.{AllByRecursion}
use Rattle.ip_text.specs.Number.{IsDecimalText, IsAsNumberText}
use Rattle.ip_text.specs.Ipv4.{IsIpv4Text}
use Rattle.ip_text.specs.Ipv6.{IsIpv6Text}
use Rattle.origins.specs.Prefix.{address_bits}

-- what an origin's text says, before it is known to be an origin
pub record Parts : Type 0 where
  pub v6 : Bool
  pub address : ℕ
  pub len : ℕ
  pub maximum : Option ℕ
  pub asn : ℕ

-- an address of the family
abbrev pub IsAddressText : List ℕ → Bool → ℕ → Type 0
IsAddressText text false address = IsIpv4Text text address
IsAddressText text true address = IsIpv6Text text address

-- a length, and a maximum after a hyphen or none
abbrev pub IsLengthsText : List ℕ → ℕ → Option ℕ → Type 0
IsLengthsText text len None = IsDecimalText text len
IsLengthsText text len (Some maximum) = (length_text maximum_text : List ℕ)
    × (text ≡ length_text ++ codes "-" ++ maximum_text)
    × IsDecimalText length_text len × IsDecimalText maximum_text maximum

-- An address, and the lengths after a slash. The length is at most that of an address; a maximum
-- is any number.
pub record IsPrefixText (text : List ℕ) (v6 : Bool) (address len : ℕ) (maximum : Option ℕ) : Type 0 where
  pub address_text : List ℕ
  pub lengths_text : List ℕ
  pub spelled : text ≡ address_text ++ codes "/" ++ lengths_text
  pub address_is : IsAddressText address_text v6 address
  pub lengths_are : IsLengthsText lengths_text len maximum
  pub short : len ≤ address_bits v6

-- space or tab
abbrev pub IsBlank : ℕ → Type 0
IsBlank byte = (byte ≡ 32) ⊎ (byte ≡ 9)

-- a prefix, `=>` with any blanks round it, and an AS number
pub record IsOriginText (text : List ℕ) (parts : Parts) : Type 0 where
  pub prefix_text : List ℕ
  pub blanks_before : List ℕ
  pub blanks_after : List ℕ
  pub asn_text : List ℕ
  pub spelled : text ≡ prefix_text ++ blanks_before ++ codes "=>" ++ blanks_after ++ asn_text
  pub prefix_is : IsPrefixText prefix_text parts.v6 parts.address parts.len parts.maximum
  pub before : AllByRecursion IsBlank blanks_before
  pub after : AllByRecursion IsBlank blanks_after
  pub asn_is : IsAsNumberText asn_text parts.asn
