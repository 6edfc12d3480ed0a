-- What contracts see of the state, and how its bodies go over it.
use Rattle.std.specs.Prelude.{ℕ, zero, suc, ◌-◌, Bool, ◌&&◌, not, nat_le, nat_lt, List, [], ◌∷◌, ◌++◌, length, take, map, Option, None, Some, if◌then◌else◌}
use Rattle.pub_set.specs.declared.objects.Object.{Object}
use Rattle.outlet_api.specs.Calls.{Call, put, removal}
use Rattle.rrdp_text.specs.Texts.{snapshot_text}
use Rattle.rrdp_state.specs.declared.delta.Delta.{Delta}
use Rattle.rrdp_state.specs.Named.{FileName, Entry, fitting, most_named, snapshot_entry, delta_entry}
use Rattle.rrdp_state.specs.Named.FileName.{SnapshotOf, DeltaOf}
use Rattle.rrdp_state.specs.Paths.{path_of, notification_path}
use Rattle.rrdp_state.specs.Exported.{Repository, notification_with, entry_put, is_named, left_by}

-- The session and the base, the serial of the newest edition, the deltas that its notification names,
-- and how many were named by the one before it, and by the one before that.
pub record Kept : Type 0 where
  pub session : List ℕ
  pub base : List ℕ
  pub serial : ℕ
  pub deltas : List Delta
  pub previous : ℕ
  pub before : ℕ

-- The deltas that are named with one more, beside a snapshot of so many bytes. Where that one can't be
-- named, none is.
abbrev pub named_with : ℕ → ℕ → Option (List ℕ) → List Delta → List Delta
named_with serial snapshot_len None deltas = []
named_with serial snapshot_len (Some text) deltas =
    fitting most_named snapshot_len (record { serial = serial; text = text } ∷ deltas)

-- With the delta of one more edition, whose snapshot has so many bytes.
abbrev pub advanced : Kept → ℕ → ℕ → Option (List ℕ) → Kept
advanced kept serial snapshot_len delta = record {
  session = kept.session;
  base = kept.base;
  serial = serial;
  deltas = named_with serial snapshot_len delta kept.deltas;
  previous = length kept.deltas;
  before = kept.previous;
}

-- ---- what is put

abbrev pub entries_with : ℕ → List ℕ → List Delta → List Entry
entries_with serial snapshot deltas = snapshot_entry serial snapshot ∷ map delta_entry deltas

abbrev pub puts_with : Repository → ℕ → List ℕ → List Delta → Bool → List Call
puts_with repository serial snapshot deltas all =
    map (entry_put repository.session)
    (entries_with serial snapshot (if all then deltas else take 1 deltas))
    ++ put notification_path (notification_with repository serial snapshot deltas) ∷ []

-- By the objects that stand after the newest edition.
abbrev pub kept_puts : Kept → List Object → Bool → List Call
kept_puts kept objects all =
    if nat_lt 0 kept.serial
    then puts_with (record { session = kept.session; base = kept.base }) kept.serial
    (snapshot_text kept.session kept.serial objects) kept.deltas all
    else []

-- ---- what is left

-- So many numbers, from one downwards.
abbrev pub down_from : ℕ → ℕ → List ℕ
down_from n zero = []
down_from n (suc m) = n ∷ down_from (n - 1) m

-- The files of a notification that names so many deltas.
abbrev pub run_files : ℕ → ℕ → List FileName
run_files serial count = SnapshotOf serial ∷ map DeltaOf (down_from serial count)

-- Whether a number is among them.
abbrev pub is_in_run : ℕ → ℕ → ℕ → Bool
is_in_run newest count serial = nat_le serial newest && nat_lt (newest - serial) count

abbrev pub left_runs : ℕ → ℕ → ℕ → ℕ → List FileName
left_runs serial named previous before =
    if nat_lt serial 3 then []
    else left_by (run_files (serial - 2) before) (run_files (serial - 1) previous)
    (run_files serial named)

-- Whether a file of the notification before the previous one is left.
abbrev pub is_left : ℕ → ℕ → ℕ → FileName → Bool
is_left serial named previous file =
    not (is_named file (run_files (serial - 1) previous))
    && not (is_named file (run_files serial named))

abbrev pub kept_removals : Kept → Bool → List Call
kept_removals kept all =
    if all then []
    else map (λ file. removal (path_of kept.session file))
    (left_runs kept.serial (length kept.deltas) kept.previous kept.before)
