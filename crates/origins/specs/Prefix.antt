-- Prefixes of the two address families, as numbers (RFC 4632 section 3.1, RFC 4291 section 2.3).
use Rattle.std.specs.Prelude.{◌≡◌, ℕ, ◌-◌, ◌/◌, ◌%◌, ◌^◌, ◌<◌, ◌≤◌, Bool, if◌then◌else◌}

-- How many bits an address of the family has: 128 for IPv6 (RFC 4291), 32 for IPv4.
abbrev pub address_bits : Bool → ℕ
address_bits v6 = if v6 then 128 else 32

-- A prefix: an address of its family with no bit set below its length.
pub record IsPrefix (v6 : Bool) (address len : ℕ) : Type 0 where
  pub fits : address < 2 ^ address_bits v6
  pub short : len ≤ address_bits v6
  pub no_host_bits : address % 2 ^ (address_bits v6 - len) ≡ 0

-- A maximum length (RFC 9582 section 4.3.2): from the prefix's own to the family's.
pub record IsMaximum (v6 : Bool) (len max : ℕ) : Type 0 where
  pub at_least : len ≤ max
  pub at_most : max ≤ address_bits v6

-- An address of the prefix: one of its family that shares the prefix's first `len` bits.
pub record IsAddressOf (v6 : Bool) (address len a : ℕ) : Type 0 where
  pub fits : a < 2 ^ address_bits v6
  pub shares : a / 2 ^ (address_bits v6 - len) ≡ address / 2 ^ (address_bits v6 - len)
