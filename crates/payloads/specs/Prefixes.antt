-- Prefixes as BIT STRINGs (RFC 9582 section 4.3.2.1, RFC 3779 section 2.1.1).
use Rattle.std.specs.Prelude.{◌≡◌, ℕ, Bool}
use Rattle.origins.specs.Prefix.{address_bits, IsPrefix}
use Rattle.origins.specs.declared.Prefix.{Prefix}
use Rattle.der.specs.Form.{Front}
use Rattle.der.specs.Forms.{mapped_front}
use Rattle.res_ext.specs.Formats.{leading}

-- A prefix as its numbers: whether its family is IPv6, its address, its length.
abbrev pub prefix_parts : Prefix → Bool × ℕ × ℕ
prefix_parts prefix = (prefix.v6, prefix.address, prefix.length)

-- The prefix of the family that begins with so many leading bits, and the way back.
abbrev pub prefix_from : Bool → ℕ × ℕ → Bool × ℕ × ℕ
prefix_from v6 bits = (v6, bits.1, bits.0)

abbrev pub leading_of : Bool × ℕ × ℕ → ℕ × ℕ
leading_of x = (x.2, x.1)

-- A prefix of the family.
abbrev pub IsPrefixOf : Bool → Bool × ℕ × ℕ → Type 0
IsPrefixOf v6 x = (x.0 ≡ v6) × IsPrefix x.0 x.1 x.2

abbrev pub leading_prefix : Bool → Front (Bool × ℕ × ℕ)
leading_prefix v6 = mapped_front (leading (address_bits v6)) (prefix_from v6) leading_of
    (IsPrefixOf v6)

-- The same format. Which bits spell a prefix its own family says.
abbrev pub prefix : Bool → Front (Bool × ℕ × ℕ)
prefix v6 = record {
  good = IsPrefixOf v6;
  spelling = λ x. (leading (address_bits x.0)).spelling (leading_of x);
  read = (leading_prefix v6).read;
}
