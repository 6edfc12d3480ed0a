-- The journal's file: 16 bytes of header, then records, then a closed gate.
-- A record is an open gate (01), the payload's length in 8 bytes, most significant first, and the payload.
use Rattle.std.specs.Prelude.{◌≡◌, ◌≤◌, ℕ, zero, suc, ◌+◌, ◌==◌, ◌&&◌, nat_le, Bool, Option, Some, None, List, [], ◌∷◌, ◌++◌, length, map, take, drop, if◌then◌else◌}
use Rattle.std.specs.Int.{w64, to_be_bytes, from_be_bytes}
use Rattle.std.specs.Str.{bytes_eq}

-- `KRILLJOURNAL0001`
abbrev pub header : List ℕ
header = 75 ∷ 82 ∷ 73 ∷ 76 ∷ 76 ∷ 74 ∷ 79 ∷ 85 ∷ 82 ∷ 78 ∷ 65 ∷ 76 ∷ 48 ∷ 48 ∷ 48 ∷ 49 ∷ []

-- these payloads as records
abbrev pub spelled : List (List ℕ) → List ℕ
spelled [] = []
spelled (payload ∷ records) = 1 ∷ (to_be_bytes w64 (length payload) ++ (payload ++ spelled records))

-- a journal's file with these records
abbrev pub file_of : List (List ℕ) → List ℕ
file_of records = header ++ (spelled records ++ 0 ∷ [])

-- how many bytes records of these sizes take: each its own, and 9 for its gate and its length
abbrev pub taken_by : List ℕ → ℕ
taken_by [] = 0
taken_by (size ∷ sizes) = 9 + size + taken_by sizes

-- the offset just past the closed gate, by the sizes of the payloads and by the payloads
abbrev pub held_for : List ℕ → ℕ
held_for sizes = 17 + taken_by sizes

abbrev pub held_by : List (List ℕ) → ℕ
held_by records = held_for (map length records)

-- the payloads of these sizes, in the bytes of records that lie one after another
abbrev pub payloads : List ℕ → List ℕ → List (List ℕ)
payloads [] bytes = []
payloads (size ∷ sizes) bytes = take size (drop 9 bytes) ∷ payloads sizes (drop (9 + size) bytes)

-- what opening makes of a file: one of at most 17 bytes becomes a journal without records, a longer one stays
abbrev pub opened : List ℕ → List ℕ
opened file = if nat_le 18 (length file) then file else file_of []

-- what a refused opening may leave of a file: a longer one as it is, and one of at most 17 bytes no longer
pub record IsUnopened (old new : List ℕ) : Type 0 where
  pub long : 18 ≤ length old → new ≡ old
  pub short : length old ≤ 17 → length new ≤ 17

-- what stands behind a gate, as a record: the length of its payload, whether it is whole, the payload, and what follows
abbrev pub size_of : List ℕ → ℕ
size_of rest = from_be_bytes w64 (take 8 rest)

abbrev pub is_whole : List ℕ → Bool
is_whole rest = nat_le (8 + size_of rest) (length rest)

abbrev pub payload_of : List ℕ → List ℕ
payload_of rest = take (size_of rest) (drop 8 rest)

abbrev pub behind : List ℕ → List ℕ
behind rest = drop (8 + size_of rest) rest

-- the payloads of the records from a gate on, up to the first that isn't open or isn't whole; at most n
abbrev pub records_in : ℕ → List ℕ → List (List ℕ)
records_in zero bytes = []
records_in (suc n) [] = []
records_in (suc n) (gate ∷ rest) = if gate == 1 && is_whole rest then payload_of rest ∷ records_in n (behind rest) else []

abbrev pub has_header : List ℕ → Bool
has_header file = bytes_eq (take 16 file) header

-- the payloads of the records that a file recovers to
abbrev pub recovered : List ℕ → List (List ℕ)
recovered file = if nat_le 18 (length file) && has_header file then records_in (length file) (drop 16 file) else []

-- where the records from a gate on break off: no byte there, or an open gate whose record isn't whole or is longer than the limit
abbrev pub damaged_in : ℕ → ℕ → ℕ → List ℕ → Option ℕ
damaged_in limit zero at bytes = None
damaged_in limit (suc n) at [] = Some at
damaged_in limit (suc n) at (gate ∷ rest) =
    if gate == 1 then (if is_whole rest && nat_le (size_of rest) limit then damaged_in limit n (at + 9 + size_of rest) (behind rest) else Some at) else None

-- where a file is damaged
abbrev pub damaged_at : ℕ → List ℕ → Option ℕ
damaged_at limit file = if nat_le 18 (length file) then (if has_header file then damaged_in limit (length file) 16 (drop 16 file) else Some 0) else None
