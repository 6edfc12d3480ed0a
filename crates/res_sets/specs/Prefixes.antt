-- Ranges that are prefixes.
use Rattle.std.specs.Prelude.{◌≡◌, ◌≢◌, ◌==◌, ◌&&◌, ℕ, zero, suc, ◌+◌, ◌-◌, ◌%◌, ◌^◌, ◌<◌, ◌≤◌, Bool, if◌then◌else◌, Option, Some, None, Result, Ok, Err}
use Rattle.res_sets.specs.declared.numbers.Range.{Range}
use Rattle.res_sets.specs.declared.prefixes.BlockFault.{BlockFault}
use Rattle.res_sets.specs.declared.prefixes.BlockFault.TheVariants.{BadNumber, BadRange, HostBits}

-- The range has the addresses that begin with the leading bits of its first one, so many of so many
-- (RFC 4632 section 3.1, RFC 4291 section 2.3).
pub record IsPrefixRange (bits len : ℕ) (range : Range) : Type 0 where
  pub short : len ≤ bits
  pub no_host_bits : range.first % 2 ^ (bits - len) ≡ 0
  pub size : range.last + 1 ≡ range.first + 2 ^ (bits - len)

-- Whether just the addresses from the first to the last, of so many bits, begin as the first one
-- does in len bits.
abbrev pub is_prefix : ℕ → ℕ → ℕ × ℕ → Bool
is_prefix bits len span =
    (span.0 % 2 ^ (bits - len) == 0) && (span.1 + 1 == span.0 + 2 ^ (bits - len))

-- The length of the longest such prefix that is at most so long, if there is one.
abbrev pub prefix_up_to : ℕ → ℕ → ℕ × ℕ → Option ℕ
prefix_up_to bits zero span = if is_prefix bits zero span then Some zero else None
prefix_up_to bits (suc len) span =
    if is_prefix bits (suc len) span then Some (suc len) else prefix_up_to bits len span

-- The length of the prefix that the addresses from the first to the last are, if they are one.
unfoldable pub span_length : ℕ → ℕ × ℕ → Option ℕ
span_length bits span = prefix_up_to bits bits span

-- The length of the prefix that a range of addresses of so many bits is, if it is one.
abbrev pub prefix_of : ℕ → Range → Option ℕ
prefix_of bits range = span_length bits (range.first, range.last)

-- an address and a length
abbrev pub ReadsPrefix : ℕ → (ℕ → Type 0) → (ℕ → Type 0) → Result Range BlockFault → Type 0
ReadsPrefix bits Address Length (Ok range) = Address range.first × ((len : ℕ) × (Length len × IsPrefixRange bits len range))
ReadsPrefix bits Address Length (Err BadNumber) = (m len : ℕ) → Address m → ¬ Length len
ReadsPrefix bits Address Length (Err BadRange) = (m : ℕ) × ((len : ℕ) × (Address m × Length len × (bits < len)))
ReadsPrefix bits Address Length (Err HostBits) =
    (m : ℕ) × ((len : ℕ) × (Address m × Length len × (len ≤ bits) × (m % 2 ^ (bits - len) ≢ 0)))
