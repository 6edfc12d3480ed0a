-- What a file and an image of a desk's disk recover to.
use Rattle.std.specs.Prelude.{◌≡◌, ℕ, Option, None, Some, List, IfSome}
use Rattle.disk_api.specs.declared.disk.Disk.{Ghosts as DiskGhosts}
use Rattle.gate_journal.specs.View.{RecoversToInDoubt}
use Rattle.desk_core.specs.View.{View, journal_limit}

-- The file recovers to the records, or to these and the one in doubt, if there is one.
abbrev pub RecoversTo : List (List ℕ) → Option (List ℕ) → List ℕ → Type 0
RecoversTo records doubt file = RecoversToInDoubt journal_limit (Some records) doubt file

-- The same, where the disk is known.
abbrev pub RecoversToKnown : Option (List ℕ) → List (List ℕ) → Option (List ℕ) → List ℕ → Type 0
RecoversToKnown content records doubt file = IfSome content (λ _. RecoversTo records doubt file)

-- What the disk holds, and what a crash now may leave, recovers to the desk's records, and perhaps the one
-- in doubt; an open desk has none in doubt.
pub record IsSafe {D : Type 0} (disk_of : DiskGhosts D) (desk : View D) : Type 0 where
  pub bytes : IfSome (disk_of.content desk.disk) (RecoversTo desk.records desk.doubt)
  pub images : (c : List ℕ) → disk_of.may_leave desk.disk c → RecoversToKnown (disk_of.content desk.disk) desk.records desk.doubt c
  pub settled : desk.shut ≡ None → desk.doubt ≡ None
