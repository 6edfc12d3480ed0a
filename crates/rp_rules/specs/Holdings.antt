-- Number resources inside others (RFC 3779 sections 2.3 and 3.3, RFC 6487 section 7.1).
use Rattle.std.specs.Prelude.{ℕ, ◌+◌, ◌-◌, ◌^◌, Bool, ◌&&◌, nat_le, if◌then◌else◌, List, [], Option, None, Some}
use Rattle.std.specs.List.{list_all, list_any}
use Rattle.origins.specs.Prefix.{address_bits}
use Rattle.payloads.specs.RoaFormats.{Entry}
use Rattle.cert_obj.specs.Values.{Sets}

-- The ends of a range.
abbrev pub Span : Type 0
Span = ℕ × ℕ

-- One range of the set has the whole span. The ranges of a set are neither adjacent nor do they
-- overlap, so that is so exactly where the set has each number of the span.
abbrev pub has_span : List Span → Span → Bool
has_span set span = list_any (λ range. nat_le range.0 span.0 && nat_le span.1 range.1) set

-- A number lies in a range of the set.
abbrev pub has_number : List Span → ℕ → Bool
has_number set n = list_any (λ range. nat_le range.0 n && nat_le n range.1) set

abbrev pub is_inside : List Span → List Span → Bool
is_inside set other = list_all (λ span. has_span other span) set

-- Family by family.
abbrev pub are_inside : Sets → Sets → Bool
are_inside sets others =
    is_inside sets.asn others.asn && is_inside sets.v4 others.v4 && is_inside sets.v6 others.v6

abbrev pub no_sets : Sets
no_sets = record { asn = []; v4 = []; v6 = [] }

-- The resources of a certificate under an issuer that has these: inherited ones are the issuer's.
abbrev pub held_under : Sets → Option Sets → Sets
held_under issuers None = issuers
held_under issuers (Some sets) = sets

-- The addresses of an entry's prefix.
abbrev pub span_of : Entry → Span
span_of e = (e.address, e.address + (2 ^ (address_bits e.v6 - e.len) - 1))

abbrev pub addresses : Sets → Bool → List Span
addresses sets v6 = if v6 then sets.v6 else sets.v4

-- The prefix of each entry lies in the addresses of its family (RFC 9582 section 5).
abbrev pub have_prefixes : Sets → List Entry → Bool
have_prefixes sets entries = list_all (λ e. has_span (addresses sets e.v6) (span_of e)) entries
