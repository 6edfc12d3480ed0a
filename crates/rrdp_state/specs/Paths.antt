-- Where the files stand: their paths below the repository's base.
use Rattle.std.specs.Prelude.{ℕ, List, ◌++◌, codes, decimal}
use Rattle.uuid.specs.Text.{hyphenated_text, lower}
use Rattle.rrdp_state.specs.Named.{FileName}
use Rattle.rrdp_state.specs.Named.FileName.{SnapshotOf, DeltaOf}

abbrev pub path_in : List ℕ → ℕ → List ℕ → List ℕ
path_in session serial name =
    hyphenated_text lower session ++ codes "/" ++ decimal serial ++ name

abbrev pub snapshot_path : List ℕ → ℕ → List ℕ
snapshot_path session serial = path_in session serial (codes "/snapshot.xml")

abbrev pub delta_path : List ℕ → ℕ → List ℕ
delta_path session serial = path_in session serial (codes "/delta.xml")

abbrev pub path_of : List ℕ → FileName → List ℕ
path_of session (SnapshotOf serial) = snapshot_path session serial
path_of session (DeltaOf serial) = delta_path session serial

abbrev pub notification_path : List ℕ
notification_path = codes "notification.xml"
