-- The formats of a certificate's resources (RFC 6487 sections 4.8.10 and 4.8.11).
use Rattle.std.specs.Prelude.{ℕ, Bool, true, not, ◌&&◌, if◌then◌else◌, Option, Some, None, List, []}
use Rattle.der.specs.Form.{Whole, Front}
use Rattle.der.specs.Forms.{ends, tested, possibly, through}
use Rattle.object_parts.specs.declared.identifiers.TheConstants.{IP_BLOCKS, AS_IDENTIFIERS}
use Rattle.object_parts.specs.FrameFormats.{critical_extension}
use Rattle.res_ext.specs.Formats.{as_identifiers, ip_blocks, has_numbers}
use Rattle.cert_obj.specs.declared.values.CertKind.TheVariants.{EndEntity}
use Rattle.cert_obj.specs.Values.{Sets, is_empty_list, IsHeld, may_hold}

-- What an extension of addresses says: None where they are the issuer's, else a set of each
-- family.
abbrev pub Addresses : Type 0
Addresses = Option (List (ℕ × ℕ) × List (ℕ × ℕ))

-- The same of AS numbers.
abbrev pub Numbers : Type 0
Numbers = Option (List (ℕ × ℕ))

-- Whether there is an address, or the issuer's are meant.
abbrev pub has_addresses : Addresses → Bool
has_addresses None = true
has_addresses (Some ip) = not (is_empty_list ip.0 && is_empty_list ip.1)

-- IP address blocks, which aren't empty (RFC 6487 section 4.8.10).
abbrev pub addresses : Front Addresses
addresses = critical_extension IP_BLOCKS (tested ip_blocks has_addresses)

-- AS identifiers, which aren't empty (RFC 6487 section 4.8.11).
abbrev pub numbers : Front Numbers
numbers = critical_extension AS_IDENTIFIERS (tested as_identifiers has_numbers)

abbrev pub some_sets : List (ℕ × ℕ) → List (ℕ × ℕ) → List (ℕ × ℕ) → Option (Option Sets)
some_sets asn v4 v6 = Some (Some (record { asn = asn; v4 = v4; v6 = v6 }))

-- What the two extensions say together: both inherit or none does, and without an extension there
-- are none of its numbers.
abbrev pub joined : Option Addresses → Option Numbers → Option (Option Sets)
joined None None = some_sets [] [] []
joined None (Some None) = None
joined None (Some (Some asn)) = some_sets asn [] []
joined (Some None) None = None
joined (Some None) (Some None) = Some None
joined (Some None) (Some (Some asn)) = None
joined (Some (Some ip)) None = some_sets [] ip.0 ip.1
joined (Some (Some ip)) (Some None) = None
joined (Some (Some ip)) (Some (Some asn)) = some_sets asn ip.0 ip.1

unfoldable pub held_in : Option Addresses × (Option Numbers × Unit {0}) → Option (Option Sets)
held_in (addresses, (numbers, end)) = joined addresses numbers

-- Sets without a number have no extension.
abbrev pub listed_addresses : List (ℕ × ℕ) → List (ℕ × ℕ) → Option Addresses
listed_addresses v4 v6 =
    if is_empty_list v4 && is_empty_list v6 then None else Some (Some (v4, v6))

abbrev pub listed_numbers : List (ℕ × ℕ) → Option Numbers
listed_numbers asn = if is_empty_list asn then None else Some (Some asn)

abbrev pub held_out : Option Sets → Option Addresses × (Option Numbers × Unit {0})
held_out None = (Some None, (Some None, tt))
held_out (Some sets) = (listed_addresses sets.v4 sets.v6, (listed_numbers sets.asn, tt))

-- The extensions of the resources, behind which nothing stands.
unfoldable pub held : Whole (Option Sets)
held = through (possibly addresses (possibly numbers ends)) held_in held_out IsHeld

-- Those of an end-entity (RFC 9582 section 5).
unfoldable pub entity_held : Whole (Option Sets)
entity_held = tested held (may_hold EndEntity)
