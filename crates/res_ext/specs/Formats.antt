-- The formats of the extensions, part by part. A range is seen as its first and its last number,
-- and a set as the list of its ranges (RFC 3779 sections 2.2.3 and 3.2.3).
use Rattle.std.specs.Prelude.{◌≡◌, ℕ, ◌+◌, ◌-◌, ◌*◌, ◌/◌, ◌^◌, ◌<◌, ◌≤◌, ◌%◌, ◌⊎◌, Bool, true, false, ◌&&◌, ◌==◌, nat_lt, nat_le, Option, Some, None, is_none, List, [], ◌∷◌, length, ⊤, if◌then◌else◌}
use Rattle.std.proofs.Common.{inl, inr}
use Rattle.std.specs.Int.Digits.{number_from_digits}
use Rattle.der.specs.Tags as tag
use Rattle.der.specs.Form.{Whole, Front}
use Rattle.der.specs.Forms.{ends, within, sole, both, only, preceded, through, through_front, mapped_front, tested, either, possibly, many}
use Rattle.der.specs.Leaves.{number, bits, constant}
use Rattle.res_sets.specs.declared.numbers.Family.{Family}
use Rattle.res_sets.specs.declared.numbers.Family.TheVariants.{Asn, V4, V6}
use Rattle.res_sets.specs.declared.numbers.Range.{Range}
use Rattle.res_sets.specs.Numbers.{family_end}
use Rattle.res_ext.specs.Prefixes.{spare, leading_bytes, kept, span_length}

abbrev pub span_of : Range → ℕ × ℕ
span_of range = (range.first, range.last)

-- ---- AS numbers (RFC 3779 section 3.2.3)

abbrev pub as_span : ℕ ⊎ (ℕ × ℕ) → ℕ × ℕ
as_span (inl n) = (n, n)
as_span (inr span) = span

-- One number alone, or the ends of more (RFC 3779 section 3.2.3.5).
abbrev pub as_kind : ℕ × ℕ → ℕ ⊎ (ℕ × ℕ)
as_kind span = if span.0 == span.1 then inl span.0 else inr span

abbrev pub as_good : ℕ × ℕ → Type 0
as_good span = (span.0 ≤ span.1) × (span.1 < 2 ^ 64)

abbrev pub as_ends : Whole (ℕ × ℕ)
as_ends = tested (both number (only number)) (λ span. nat_lt span.0 span.1)

unfoldable pub as_block : Front (ℕ × ℕ)
as_block = mapped_front (either tag.integer number (within tag.sequence as_ends)) as_span as_kind
    as_good

-- ---- addresses of so many bits (RFC 3779 section 2.2.3)

-- How many leading bits a BIT STRING has, and the first address that begins with them.
unfoldable pub leading_in : ℕ → ℕ × List ℕ → Option (ℕ × ℕ)
leading_in size x =
    if nat_lt (size / 8) (length x.1) then None
    else Some (8 * length x.1 - x.0, number_from_digits 256 x.1 * 2 ^ (size - 8 * length x.1))

abbrev pub leading_out : ℕ → ℕ × ℕ → ℕ × List ℕ
leading_out size y = (spare y.0, leading_bytes size y.0 y.1)

abbrev pub leading_good : ℕ → ℕ × ℕ → Type 0
leading_good size y = (y.0 ≤ size) × (y.1 < 2 ^ size) × (y.1 % 2 ^ (size - y.0) ≡ 0)

abbrev pub leading : ℕ → Front (ℕ × ℕ)
leading size = through_front bits (leading_in size) (leading_out size) (leading_good size)

-- The last address that begins with so many bits of an address (RFC 3779 section 2.1.2).
abbrev pub last_of : ℕ → ℕ × ℕ → ℕ
last_of size y = y.1 + (2 ^ (size - y.0) - 1)

-- The two prefixes are as short as they can be for the ends, which are no prefix (RFC 3779
-- section 2.2.3.9).
abbrev pub are_shortest : ℕ → ℕ × ℕ → ℕ × ℕ → Bool
are_shortest size low high =
    nat_le low.1 (last_of size high) && low.0 == kept 0 size low.1
    && high.0 == kept 1 size (last_of size high)
    && is_none (span_length size (low.1, last_of size high))

unfoldable pub ends_in : ℕ → (ℕ × ℕ) × (ℕ × ℕ) → Option (ℕ × ℕ)
ends_in size (low, high) =
    if are_shortest size low high then Some (low.1, last_of size high) else None

abbrev pub ends_out : ℕ → ℕ × ℕ → (ℕ × ℕ) × (ℕ × ℕ)
ends_out size span = (
  (kept 0 size span.0, span.0),
  (kept 1 size span.1, span.1 - (2 ^ (size - kept 1 size span.1) - 1)),
)

abbrev pub ends_good : ℕ → ℕ × ℕ → Type 0
ends_good size span = (span.0 ≤ span.1) × (span.1 < 2 ^ size) × (span_length size span ≡ None)

abbrev pub address_ends : ℕ → Whole (ℕ × ℕ)
address_ends size =
    through (both (leading size) (only (leading size))) (ends_in size) (ends_out size)
    (ends_good size)

abbrev pub address_span : ℕ → (ℕ × ℕ) ⊎ (ℕ × ℕ) → ℕ × ℕ
address_span size (inl prefix) = (prefix.1, last_of size prefix)
address_span size (inr span) = span

abbrev pub prefix_or : ℕ × ℕ → Option ℕ → (ℕ × ℕ) ⊎ (ℕ × ℕ)
prefix_or span (Some len) = inl (len, span.0)
prefix_or span None = inr span

-- The prefix that it is, or its ends (RFC 3779 section 2.2.3.7).
abbrev pub address_kind : ℕ → ℕ × ℕ → (ℕ × ℕ) ⊎ (ℕ × ℕ)
address_kind size span = prefix_or span (span_length size span)

abbrev pub address_good : ℕ → ℕ × ℕ → Type 0
address_good size span = (span.0 ≤ span.1) × (span.1 < 2 ^ size)

unfoldable pub address_block : ℕ → Front (ℕ × ℕ)
address_block size =
    mapped_front (either tag.bit_string (leading size) (within tag.sequence (address_ends size)))
    (address_span size) (address_kind size) (address_good size)

-- ---- sets

abbrev pub block : Family → Front (ℕ × ℕ)
block Asn = as_block
block V4 = address_block 32
block V6 = address_block 128

-- The spans rise from a number on, and before each next one at least one number is left out (RFC
-- 3779 sections 2.2.3.6 and 3.2.3.4).
abbrev pub are_canonical : ℕ → ℕ → List (ℕ × ℕ) → Bool
are_canonical end low [] = true
are_canonical end low (span ∷ spans) =
    nat_le low span.0 && nat_le span.0 span.1 && nat_lt span.1 end
    && are_canonical end (span.1 + 2) spans

abbrev pub if_canonical : Family → List (ℕ × ℕ) → Option (List (ℕ × ℕ))
if_canonical family spans = if are_canonical (family_end family) 0 spans then Some spans else None

unfoldable pub blocks : Family → Whole (List (ℕ × ℕ))
blocks family = tested (many (block family)) (are_canonical (family_end family) 0)

-- ---- what stands for a family (RFC 3779 sections 2.2.3.4 and 3.2.3.2): NULL where its numbers
-- are the issuer's, or the blocks of a set

abbrev pub choice_value : Unit {0} ⊎ List (ℕ × ℕ) → Option (List (ℕ × ℕ))
choice_value (inl x) = None
choice_value (inr spans) = Some spans

abbrev pub choice_kind : Option (List (ℕ × ℕ)) → Unit {0} ⊎ List (ℕ × ℕ)
choice_kind None = inl tt
choice_kind (Some spans) = inr spans

abbrev pub choice_good : Family → Option (List (ℕ × ℕ)) → Type 0
choice_good family None = ⊤
choice_good family (Some spans) = (blocks family).good spans

unfoldable pub choice : Family → Whole (Option (List (ℕ × ℕ)))
choice family =
    only (mapped_front
    (either tag.null (within tag.null ends) (within tag.sequence (blocks family)))
    choice_value choice_kind (choice_good family))

-- ---- the extensions (RFC 3779 sections 2.2.3.1 and 3.2.3.1)

-- None where all AS numbers are the issuer's (RFC 3779 section 3.2.3.3).
unfoldable pub as_content : Whole (Option (List (ℕ × ℕ)))
as_content = sole tag.context_0 (choice Asn)

abbrev pub as_identifiers : Whole (Option (List (ℕ × ℕ)))
as_identifiers = sole tag.sequence as_content

abbrev pub has_numbers : Option (List (ℕ × ℕ)) → Bool
has_numbers None = true
has_numbers (Some []) = false
has_numbers (Some (span ∷ spans)) = true

abbrev pub family_bytes : Family → List ℕ
family_bytes Asn = []
family_bytes V4 = 0 ∷ 1 ∷ []
family_bytes V6 = 0 ∷ 2 ∷ []

-- A family of addresses: its number, and what stands for it.
unfoldable pub part : Family → Front (Option (List (ℕ × ℕ)))
part family =
    within tag.sequence
    (preceded (constant tag.octet_string (family_bytes family))
    (tested (choice family) has_numbers))

-- What the two families say together: both inherit, or none does (RFC 3779 section 2.2.3.4).
abbrev pub joined : Option (Option (List (ℕ × ℕ))) → Option (Option (List (ℕ × ℕ)))
    → Option (Option (List (ℕ × ℕ) × List (ℕ × ℕ)))
joined None None = Some (Some ([], []))
joined None (Some None) = None
joined None (Some (Some v6)) = Some (Some ([], v6))
joined (Some None) None = None
joined (Some None) (Some None) = Some None
joined (Some None) (Some (Some v6)) = None
joined (Some (Some v4)) None = Some (Some (v4, []))
joined (Some (Some v4)) (Some None) = None
joined (Some (Some v4)) (Some (Some v6)) = Some (Some (v4, v6))

unfoldable pub ip_in : Option (Option (List (ℕ × ℕ)))
    × (Option (Option (List (ℕ × ℕ))) × Unit {0}) → Option (Option (List (ℕ × ℕ) × List (ℕ × ℕ)))
ip_in (v4, (v6, end)) = joined v4 v6

-- A set that is empty is left out.
abbrev pub listed_spans : List (ℕ × ℕ) → Option (Option (List (ℕ × ℕ)))
listed_spans [] = None
listed_spans (span ∷ spans) = Some (Some (span ∷ spans))

abbrev pub ip_out : Option (List (ℕ × ℕ) × List (ℕ × ℕ)) → Option (Option (List (ℕ × ℕ)))
    × (Option (Option (List (ℕ × ℕ))) × Unit {0})
ip_out None = (Some None, (Some None, tt))
ip_out (Some sets) = (listed_spans sets.0, (listed_spans sets.1, tt))

abbrev pub ip_good : Option (List (ℕ × ℕ) × List (ℕ × ℕ)) → Type 0
ip_good None = ⊤
ip_good (Some sets) = (blocks V4).good sets.0 × (blocks V6).good sets.1

-- None where all addresses are the issuer's (RFC 3779 section 2.2.3.5).
unfoldable pub ip_content : Whole (Option (List (ℕ × ℕ) × List (ℕ × ℕ)))
ip_content = through (possibly (part V4) (possibly (part V6) ends)) ip_in ip_out ip_good

abbrev pub ip_blocks : Whole (Option (List (ℕ × ℕ) × List (ℕ × ℕ)))
ip_blocks = sole tag.sequence ip_content
