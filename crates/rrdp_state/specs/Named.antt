-- The files that a notification names (RFC 8182 section 3.3.2): the snapshot, and the longest run
-- of newest deltas that has at most 16 members and no more bytes than the snapshot.
use Rattle.std.specs.Prelude.{ℕ, ◌+◌, ◌-◌, Bool, ◌==◌, ◌&&◌, false, nat_lt, nat_le, List, [], ◌∷◌, length, map, if◌then◌else◌}
use Rattle.rrdp_state.specs.declared.delta.Delta.{Delta}
use Rattle.rrdp_state.specs.Editions.{Edition, edition_texts, deltas_of}

-- The longest run from the front with at most so many deltas and so many bytes.
abbrev pub fitting : ℕ → ℕ → List Delta → List Delta
fitting most room [] = []
fitting most room (delta ∷ older) =
    if nat_lt 0 most && nat_le (length delta.text) room
    then delta ∷ fitting (most - 1) (room - length delta.text) older
    else []

abbrev pub bytes_in : List Delta → ℕ
bytes_in [] = 0
bytes_in (delta ∷ older) = length delta.text + bytes_in older

abbrev pub most_named : ℕ
most_named = 16

abbrev pub named_deltas : List ℕ → List Edition → List Delta
named_deltas session [] = []
named_deltas session (edition ∷ older) =
    fitting most_named (length (edition_texts session older edition).snapshot)
    (deltas_of session (edition ∷ older))

-- The files of RRDP but for the notification, each by its serial.
pub data FileName : Type 0 where
  SnapshotOf : ℕ → FileName
  DeltaOf : ℕ → FileName

abbrev pub is_same_file : FileName → FileName → Bool
is_same_file (SnapshotOf m) (SnapshotOf n) = m == n
is_same_file (SnapshotOf m) (DeltaOf n) = false
is_same_file (DeltaOf m) (SnapshotOf n) = false
is_same_file (DeltaOf m) (DeltaOf n) = m == n

-- A file, and its text.
pub record Entry : Type 0 where
  pub name : FileName
  pub text : List ℕ

abbrev pub snapshot_entry : ℕ → List ℕ → Entry
snapshot_entry serial text = record { name = SnapshotOf serial; text = text }

abbrev pub delta_entry : Delta → Entry
delta_entry delta = record { name = DeltaOf delta.serial; text = delta.text }

-- The files that the notification of these editions names, in its order.
abbrev pub named_entries : List ℕ → List Edition → List Entry
named_entries session [] = []
named_entries session (edition ∷ older) =
    snapshot_entry (length older + 1) (edition_texts session older edition).snapshot
    ∷ map delta_entry (named_deltas session (edition ∷ older))

abbrev pub named_files : List ℕ → List Edition → List FileName
named_files session editions = map (λ entry. entry.name) (named_entries session editions)
