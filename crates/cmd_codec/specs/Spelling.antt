-- The one spelling of each command as the bytes of a record. All numbers are big-endian.
use Rattle.std.specs.Prelude.{ℕ, ◌<◌, ◌^◌, Bool, List, [], ◌∷◌, ◌++◌, length, if◌then◌else◌}
use Rattle.std.specs.List.{flat_map, AllByRecursion}
use Rattle.std.specs.Int.{w32, w128, to_be_bytes}
use Rattle.names.specs.Name.{IsName}
use Rattle.origins.specs.declared.Origin.{Origin}
use Rattle.res_sets.specs.declared.numbers.Range.{Range}
use Rattle.res_sets.specs.declared.holdings.Resources.{Resources}
use Rattle.res_sets.specs.Sets.{RangeSet, IsCanonical}
use Rattle.authority_book.specs.declared.commands.Command.{Command}
use Rattle.authority_book.specs.declared.commands.Command.TheVariants.{Add, Delete, AddParent, AddChild, UpdateChild, RemoveChild, SuspendChild, UnsuspendChild, UpdateRoas, InitRoll, ActivateRoll}

-- A number in 4 bytes, and in 16.
unfoldable pub bytes_32 : ℕ → List ℕ
bytes_32 n = to_be_bytes w32 n

unfoldable pub bytes_128 : ℕ → List ℕ
bytes_128 n = to_be_bytes w128 n

-- A part of a record: a number of 32 bits, a name, a list of origins, a set of numbers.
pub data Part : Type 0 where
  TheNumber : ℕ → Part
  TheName : List ℕ → Part
  TheOrigins : List Origin → Part
  TheRanges : RangeSet → Part

-- The parts of a holder's resources.
abbrev pub granted : Resources → List Part
granted grant = TheRanges grant.asn ∷ TheRanges grant.v4 ∷ TheRanges grant.v6 ∷ []

-- A command's record: its first byte, and its parts.
abbrev pub row : Command → ℕ × List Part
row (Add name signer) = (1, TheName name ∷ TheNumber signer ∷ [])
row Delete = (2, [])
row (AddParent parent) = (3, TheName parent ∷ [])
row (AddChild child grant) = (4, TheName child ∷ granted grant)
row (UpdateChild child grant) = (5, TheName child ∷ granted grant)
row (RemoveChild child) = (6, TheName child ∷ [])
row (UpdateRoas added removed) = (7, TheOrigins added ∷ TheOrigins removed ∷ [])
row (SuspendChild child) = (8, TheName child ∷ [])
row (UnsuspendChild child) = (9, TheName child ∷ [])
row InitRoll = (10, [])
row ActivateRoll = (11, [])

-- The address family: 1 for IPv6, 0 for IPv4.
abbrev pub family_byte : Bool → ℕ
family_byte v6 = if v6 then 1 else 0

-- An origin, in 23 bytes: its family, its address in 16 bytes, its length, its maximum length, and
-- its AS number in 4 bytes.
unfoldable pub origin_spelling : Origin → List ℕ
origin_spelling o =
    family_byte o.prefix.v6 ∷ bytes_128 o.prefix.address
    ++ o.prefix.length ∷ o.max ∷ bytes_32 o.asn

-- A range, in 32 bytes: its first number and its last.
unfoldable pub range_spelling : Range → List ℕ
range_spelling range = bytes_128 range.first ++ bytes_128 range.last

-- A part: a number in 4 bytes. A name's length in 4 bytes, and its bytes. How many origins or ranges
-- there are in 4 bytes, and then each of them.
unfoldable pub part_spelling : Part → List ℕ
part_spelling (TheNumber n) = bytes_32 n
part_spelling (TheName name) = bytes_32 (length name) ++ name
part_spelling (TheOrigins origins) = bytes_32 (length origins) ++ flat_map origin_spelling origins
part_spelling (TheRanges set) = bytes_32 (length set.ranges) ++ flat_map range_spelling set.ranges

-- A command: its first byte, and its parts in their order.
unfoldable pub spelling : Command → List ℕ
spelling command = (row command).0 ∷ flat_map part_spelling (row command).1

-- What a part keeps to wherever a program holds it: numbers have 32 bits, names keep the rule of
-- names, sets are canonical, and there are fewer than 2^32 origins or ranges.
abbrev pub IsSound : Part → Type 0
IsSound (TheNumber n) = n < 2 ^ 32
IsSound (TheName name) = IsName name
IsSound (TheOrigins origins) = length origins < 2 ^ 32
IsSound (TheRanges set) = IsCanonical set × (length set.ranges < 2 ^ 32)

-- The commands that have a spelling of their own: those that a program can hold.
abbrev pub IsRecordable : Command → Type 0
IsRecordable command = AllByRecursion IsSound (row command).1
