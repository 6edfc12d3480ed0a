-- Where bytes stop being a record: at the first field that isn't whole or breaks its rule. Such a field
-- is the first byte, a number, a name's length, a name's bytes, a count, an origin, or a range, and so
-- are the bytes that are left over.
use Rattle.std.specs.Prelude.{ℕ, zero, suc, ◌+◌, ◌-◌, ◌%◌, ◌^◌, Bool, true, ◌&&◌, ◌==◌, nat_le, nat_lt, if◌then◌else◌, List, [], ◌∷◌, length, take, drop, get_or, Option, None, Some}
use Rattle.std.specs.List.{list_all}
use Rattle.std.specs.Int.{w32, w128, from_be_bytes}
use Rattle.names.specs.Name.{is_name_byte}
use Rattle.origins.specs.Prefix.{address_bits}
use Rattle.res_sets.specs.declared.numbers.Family.{Family}
use Rattle.res_sets.specs.declared.numbers.Family.TheVariants.{Asn, V4, V6}
use Rattle.res_sets.specs.Numbers.{family_end}

-- A place in a record: how many bytes lie before it, and the bytes from there on.
pub record Place : Type 0 where
  pub at : ℕ
  pub left : List ℕ

-- What going over fields comes to: it stands behind them, or at a bad one.
pub data Way : Type 0 where
  Behind : Place → Way
  BadAt : ℕ → Way

-- Where nothing was bad so far, what follows.
abbrev pub and_then : Way → (Place → Way) → Way
and_then (Behind place) next = next place
and_then (BadAt at) next = BadAt at

-- The place so many bytes on.
abbrev pub further : ℕ → Place → Place
further size place = record { at = place.at + size; left = drop size place.left }

-- A field of so many bytes that keeps to a rule.
unfoldable pub field : ℕ → (List ℕ → Bool) → Place → Way
field size rule place =
    if nat_le size (length place.left) && rule (take size place.left) then Behind (further size place) else BadAt place.at

-- The number at the front, of 4 bytes or of 16.
unfoldable pub front_32 : List ℕ → ℕ
front_32 bytes = from_be_bytes w32 (take 4 bytes)

unfoldable pub front_128 : List ℕ → ℕ
front_128 bytes = from_be_bytes w128 (take 16 bytes)

-- Any bytes will do.
abbrev pub is_any : List ℕ → Bool
is_any bytes = true

-- The length of a name: 1 to 64.
abbrev pub is_name_length : List ℕ → Bool
is_name_length bytes = nat_le 1 (front_32 bytes) && nat_le (front_32 bytes) 64

-- Letters, digits, `-` and `_`.
abbrev pub is_name_text : List ℕ → Bool
is_name_text bytes = list_all is_name_byte bytes

-- The numbers of an origin: an address of its family without a bit below the length, and a maximum
-- from the length to the family's.
abbrev pub are_of_origin : Bool → ℕ → ℕ → ℕ → Bool
are_of_origin v6 address len max =
    nat_lt address (2 ^ address_bits v6) && nat_le len (address_bits v6)
    && (address % 2 ^ (address_bits v6 - len) == 0)
    && nat_le len max && nat_le max (address_bits v6)

-- An origin: a family of 0 or 1, an address in 16 bytes, a length, a maximum, and any AS number.
abbrev pub is_origin : List ℕ → Bool
is_origin bytes =
    nat_le (get_or bytes 0 0) 1
    && are_of_origin (get_or bytes 0 0 == 1) (front_128 (drop 1 bytes)) (get_or bytes 17 0) (get_or bytes 18 0)

-- A range that may stand behind others: of the family, not falling, and from a number on.
abbrev pub is_range : Family → ℕ → List ℕ → Bool
is_range family low bytes =
    nat_le low (front_128 bytes) && nat_le (front_128 bytes) (front_128 (drop 16 bytes))
    && nat_lt (front_128 (drop 16 bytes)) (family_end family)

-- So many origins.
unfoldable pub origin_fields : ℕ → Place → Way
origin_fields zero place = Behind place
origin_fields (suc count) place = and_then (field 23 is_origin place) (origin_fields count)

-- So many ranges from a number on. Before each next one at least one number is left out.
unfoldable pub range_fields : Family → ℕ → ℕ → Place → Way
range_fields family zero low place = Behind place
range_fields family (suc count) low place =
    and_then (field 32 (is_range family low) place)
    (range_fields family count (front_128 (drop 16 place.left) + 2))

-- The kinds of parts.
pub data Kind : Type 0 where
  NumberPart : Kind
  NamePart : Kind
  OriginsPart : Kind
  RangesPart : Family → Kind

-- The fields of a part: a number; a name's length and its bytes; a count, and so many origins or
-- ranges.
unfoldable pub part : Kind → Place → Way
part NumberPart place = field 4 is_any place
part NamePart place = and_then (field 4 is_name_length place) (field (front_32 place.left) is_name_text)
part OriginsPart place = and_then (field 4 is_any place) (origin_fields (front_32 place.left))
part (RangesPart family) place = and_then (field 4 is_any place) (range_fields family (front_32 place.left) 0)

-- Parts one after another.
abbrev pub parts : List Kind → Place → Way
parts [] place = Behind place
parts (kind ∷ kinds) place = and_then (part kind place) (parts kinds)

abbrev pub grant_kinds : List Kind
grant_kinds = RangesPart Asn ∷ RangesPart V4 ∷ RangesPart V6 ∷ []

-- The parts that a record has behind that first byte, if there is such a record.
abbrev pub kinds_of : ℕ → Option (List Kind)
kinds_of first =
    if first == 1 then Some (NamePart ∷ NumberPart ∷ []) else
    if first == 2 then Some [] else
    if first == 3 then Some (NamePart ∷ []) else
    if first == 4 then Some (NamePart ∷ grant_kinds) else
    if first == 5 then Some (NamePart ∷ grant_kinds) else
    if first == 6 then Some (NamePart ∷ []) else
    if first == 7 then Some (OriginsPart ∷ OriginsPart ∷ []) else
    if first == 8 then Some (NamePart ∷ []) else
    if first == 9 then Some (NamePart ∷ []) else
    if first == 10 then Some [] else
    if first == 11 then Some [] else
    None

-- The parts, where there is such a record, and else the first byte is bad.
abbrev pub parts_if : Option (List Kind) → Place → Way
parts_if None place = BadAt 0
parts_if (Some kinds) place = parts kinds place

-- The fields of a record.
unfoldable pub fields : List ℕ → Way
fields [] = BadAt 0
fields (first ∷ rest) = parts_if (kinds_of first) (record { at = 1; left = rest })

-- Bytes that are left over are bad.
abbrev pub left_over : ℕ → List ℕ → Option ℕ
left_over at [] = None
left_over at (byte ∷ rest) = Some at

-- The bad field, if there is one.
abbrev pub bad_of : Way → Option ℕ
bad_of (BadAt at) = Some at
bad_of (Behind place) = left_over place.at place.left

-- The offset of the first bad field of a record, if it has one.
abbrev pub first_bad : List ℕ → Option ℕ
first_bad bytes = bad_of (fields bytes)
