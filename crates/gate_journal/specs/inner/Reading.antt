-- Reading a journal's file: runs of calls that change nothing on the disk, and what they find.
use Rattle.std.specs.Prelude.{◌≡◌, ◌≢◌, ◌⊎◌, ◌<◌, ◌≤◌, ℕ, ◌+◌, ◌-◌, ◌&&◌, nat_le, min, false, Option, Some, None, List, [], ◌∷◌, length, map, take, drop}
use Rattle.std.specs.List.{All}
use Rattle.std.specs.Int.{w64, to_be_bytes}
use Rattle.disk_api.specs.declared.disk.DiskStop.{DiskStop}
use Rattle.disk_api.specs.declared.disk.DiskStop.TheVariants.{Fault, Memory as DiskMemory}
use Rattle.gate_journal.specs.Format.{is_whole, size_of, recovered, damaged_at}
use Rattle.gate_journal.specs.inner.Kept.{IsLaidOut}
use Rattle.gate_journal.specs.declared.fault.JournalFault.{JournalFault}
use Rattle.gate_journal.specs.declared.fault.JournalFault.TheVariants.{DiskFault, Memory}
use Rattle.gate_journal.specs.declared.place.Place.{Place}
use Rattle.gate_journal.specs.declared.open.Head.{Head}
use Rattle.gate_journal.specs.declared.open.Head.TheVariants.{Closed, Record}

-- a read put n bytes from an offset on in front of a buffer, as many as there are
pub record Fills (bytes : List ℕ) (at n : ℕ) (new : List ℕ) : Type 0 where
  pub all : n ≡ min (length new) (length bytes - at)
  pub put : take n new ≡ take n (drop at bytes)

-- the bytes of a window are those of the file from its start on
abbrev pub IsWindow : ℕ → List ℕ → List ℕ → Type 0
IsWindow start window bytes = window ≡ take (length window) (drop start bytes)

-- the records from a gate on break off there
abbrev pub IsHarmed : ℕ → List ℕ → Type 0
IsHarmed limit rest = (rest ≡ []) ⊎ ((tail : List ℕ) × (rest ≡ 1 ∷ tail) × ((is_whole tail && nat_le (size_of tail) limit) ≡ false))

-- what was found at a gate, from which on so many bytes are left
abbrev pub IsHead : ℕ → ℕ → Head → Type 0
IsHead left limit Closed = 0 < left
IsHead left limit (Record size) = (9 + size ≤ left) × (size ≤ limit)

abbrev pub StandsAt : List ℕ → Head → Type 0
StandsAt rest Closed = (gate : ℕ) × (tail : List ℕ) × (rest ≡ gate ∷ tail) × (gate ≢ 1)
StandsAt rest (Record size) = (tail : List ℕ) × (rest ≡ 1 ∷ tail) × (size ≡ size_of tail) × (to_be_bytes w64 size ≡ take 8 tail)

-- what a stop of the disk is called here
abbrev pub fault_of : DiskStop → JournalFault
fault_of Fault = DiskFault
fault_of DiskMemory = Memory

-- whole records within the limit lie at these places, and end at a closed gate
pub record Finds (limit : ℕ) (places : List Place) (bytes : List ℕ) : Type 0 where
  pub records : List (List ℕ)
  pub laid_out : IsLaidOut records (map (λ (place : Place). place.size) places) None bytes
  pub within : All (λ payload. length payload ≤ limit) records

-- the disk now holds a whole journal of the records that these bytes recover to
pub record Opens (limit : ℕ) (places : List Place) (bytes : List ℕ) (content : Option (List ℕ)) : Type 0 where
  pub now : List ℕ
  pub known : content ≡ Some now
  pub found : Finds limit places now
  pub same : found.records ≡ recovered bytes
  pub whole : damaged_at limit bytes ≡ None
