-- Leading bits of addresses, and the ranges of addresses that are prefixes (RFC 3779 section 2.1).
use Rattle.std.specs.Prelude.{◌≡◌, ◌<◌, ◌≤◌, ℕ, zero, suc, ◌+◌, ◌-◌, ◌*◌, ◌/◌, ◌%◌, ◌^◌, Bool, ◌&&◌, ◌==◌, if◌then◌else◌, Option, Some, None, List}
use Rattle.std.specs.Int.{bytes_high_first}
use Rattle.der.specs.Spelling.{bits_spelling}
pub use Rattle.res_sets.specs.Prefixes.{is_prefix, prefix_up_to, prefix_of}
unfoldable pub use Rattle.res_sets.specs.Prefixes.{span_length}

-- So many bits are whole bytes, up to 16 of them.
pub record IsAddressSize (bits : ℕ) : Type 0 where
  pub some : 0 < bits
  pub short : bits ≤ 128
  pub whole : bits % 8 ≡ 0

-- how many bytes so many bits take
abbrev pub octets : ℕ → ℕ
octets len = (len + 7) / 8

-- how many bits of the last of these bytes are left over
abbrev pub spare : ℕ → ℕ
spare len = 8 * octets len - len

-- The first len bits of an address that has so many bits, as bytes: big-endian, with zeros behind.
abbrev pub leading_bytes : ℕ → ℕ → ℕ → List ℕ
leading_bytes bits len address =
    bytes_high_first (octets len) (address / 2 ^ (bits - len) * 2 ^ spare len)

-- The first len bits of an address as a BIT STRING.
unfoldable pub leading_spelling : ℕ → ℕ → ℕ → List ℕ
leading_spelling bits len address = bits_spelling (spare len) (leading_bytes bits len address)

-- How many leading bits stay of a number of so many bits, when trailing bits of that kind are
-- left out.
abbrev pub kept : ℕ → ℕ → ℕ → ℕ
kept bit zero n = zero
kept bit (suc bits) n = if n % 2 == bit then kept bit bits (n / 2) else suc bits
