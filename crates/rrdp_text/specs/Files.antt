-- Snapshots and deltas as a session, a serial and a list (RFC 8182 sections 3.5.2 and 3.5.3).
use Rattle.std.specs.Prelude.{ℕ, List}
use Rattle.pub_set.specs.declared.objects.Object.{Object}
use Rattle.pub_set.specs.declared.steps.Change.{Change}
use Rattle.rrdp_text.specs.declared.files.SnapshotFile.{SnapshotFile}
use Rattle.rrdp_text.specs.declared.files.DeltaFile.{DeltaFile}
use Rattle.rrdp_text.specs.Texts.{snapshot_text, delta_text}
use Rattle.rrdp_text.specs.Values.{IsOpening, AreObjects, AreChanges}

abbrev pub File : Type 0 → Type 0
File E = (List ℕ × ℕ) × List E

-- What a snapshot can say, and its text.
abbrev pub IsSnapshot : File Object → Type 0
IsSnapshot ((session, serial), objects) = IsOpening session serial × AreObjects objects

abbrev pub snapshot_spelled : File Object → List ℕ
snapshot_spelled ((session, serial), objects) = snapshot_text session serial objects

abbrev pub snapshot_of : SnapshotFile → File Object
snapshot_of f = ((f.session, f.serial), f.set)

-- What a delta can say, and its text.
abbrev pub IsDelta : File Change → Type 0
IsDelta ((session, serial), changes) = IsOpening session serial × AreChanges changes

abbrev pub delta_spelled : File Change → List ℕ
delta_spelled ((session, serial), changes) = delta_text session serial changes

abbrev pub delta_of : DeltaFile → File Change
delta_of f = ((f.session, f.serial), f.changes)
