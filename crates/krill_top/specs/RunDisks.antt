-- The disks of a run's desks, as they were handed in and as they are handed back.
use Rattle.std.specs.Prelude.{◌≡◌, ◌⊎◌, ℕ, ◌≤◌, suc, Option, None, Some, List, [], ◌∷◌, ◌++◌}
use Rattle.std.specs.Prelude.{length, map, IfSome, ⊤}
use Rattle.std.specs.Option.{option_map}
use Rattle.host_calls.specs.Rise.{HasRisen}
use Rattle.disk_api.specs.Content.{BothKnown}
use Rattle.disk_api.specs.declared.disk.Disk.{Ghosts as DiskGhosts}
use Rattle.gate_journal.specs.Format.{recovered, damaged_at, opened, IsUnopened}
use Rattle.authority_book.specs.declared.commands.Command.{Command}
use Rattle.cmd_codec.specs.Spelling.{spelling}
use Rattle.desk_core.specs.View.{journal_limit}
use Rattle.desk_core.specs.Commands.{Records, IsFirstBad}
use Rattle.desk_core.specs.Images.{RecoversTo, RecoversToKnown}
use Rattle.krill_top.specs.declared.faults.OpenFault.{OpenFault}
use Rattle.krill_top.specs.declared.faults.OpenFault.TheVariants.{Damaged, BadRecord, DiskFault}
use Rattle.krill_top.specs.declared.faults.OpenFault.TheVariants.{Memory}

-- The disk, if it is known, recovers to the records of these commands of the desk.
abbrev pub RecoveredTo : Option (List ℕ) → ℕ → List Command → Type 0
RecoveredTo content number commands =
    IfSome content (λ bytes.
    (damaged_at journal_limit bytes ≡ None) × Records number (recovered bytes) commands)

-- The disk recovers to these commands, and perhaps the one in doubt, and so does each image.
pub record IsSafe {D : Type 0} (disk_of : DiskGhosts D) (commands : List Command)
    (doubt : Option Command) (disk : D) : Type 0 where
  pub known : IfSome (disk_of.content disk)
      (RecoversTo (map spelling commands) (option_map spelling doubt))
  pub images : (c : List ℕ) → disk_of.may_leave disk c
      → RecoversToKnown (disk_of.content disk) (map spelling commands)
      (option_map spelling doubt) c

-- A desk that got no command: its disk holds what it held, and its bytes are those that opening made of
-- them.
pub record IsUntouchedDesk {D : Type 0} (disk_of : DiskGhosts D) (number : ℕ) (old new : D)
    : Type 0 where
  pub commands : List Command
  pub found : RecoveredTo (disk_of.content old) number commands
  pub left : IsSafe disk_of commands None new
  pub bytes : disk_of.content new ≡ option_map opened (disk_of.content old)
  pub later : disk_of.fault_count old ≤ disk_of.fault_count new

-- So of each desk, from this number on.
abbrev pub AreUntouchedDesks : {D : Type 0} → DiskGhosts D → ℕ → List D → List D → Type 0
AreUntouchedDesks disk_of number [] [] = ⊤
AreUntouchedDesks disk_of number [] (new ∷ news) = ⊥
AreUntouchedDesks disk_of number (old ∷ olds) [] = ⊥
AreUntouchedDesks disk_of number (old ∷ olds) (new ∷ news) =
    IsUntouchedDesk disk_of number old new × AreUntouchedDesks disk_of (suc number) olds news

-- Why a disk can't be opened as the desk of that number.
abbrev pub IsCause : {D : Type 0} → DiskGhosts D → OpenFault → ℕ → D → D → Type 0
IsCause disk_of (Damaged device at) number old new = (device ≡ number)
    × (disk_of.content new ≡ disk_of.content old)
    × IfSome (disk_of.content old) (λ bytes. damaged_at journal_limit bytes ≡ Some at)
IsCause disk_of (BadRecord device at) number old new = (device ≡ number)
    × IfSome (disk_of.content old) (λ bytes.
    (damaged_at journal_limit bytes ≡ None) × IsFirstBad number (recovered bytes) at)
IsCause disk_of (DiskFault device) number old new =
    (device ≡ number) × HasRisen (disk_of.fault_count old) (disk_of.fault_count new)
IsCause disk_of Memory number old new = ⊤
IsCause disk_of other number old new = ⊥

-- A disk that wasn't opened recovers to the records that it recovered to, a longer file is as it was, and
-- what a crash may leave recovers to them too, if it isn't what a crash might have left before.
pub record RecoversAsBefore {D : Type 0} (disk_of : DiskGhosts D) (old new : D) : Type 0 where
  pub records : option_map recovered (disk_of.content new)
      ≡ option_map recovered (disk_of.content old)
  pub bytes : BothKnown IsUnopened (disk_of.content old) (disk_of.content new)
  pub images : (c : List ℕ) → disk_of.may_leave new c → disk_of.may_leave old c
      ⊎ IfSome (disk_of.content old) (λ bytes. RecoversTo (recovered bytes) None c)
  pub later : disk_of.fault_count old ≤ disk_of.fault_count new

-- The desks before one were opened and closed again, that one wasn't opened, and those behind it are
-- untouched.
pub record StopsAt {D : Type 0} (disk_of : DiskGhosts D) (fault : OpenFault) (olds news : List D)
    : Type 0 where
  pub before : List D
  pub old : D
  pub rest : List D
  pub after : List D
  pub new : D
  pub handed_in : olds ≡ before ++ old ∷ rest
  pub handed_back : news ≡ after ++ new ∷ rest
  pub opened : AreUntouchedDesks disk_of 0 before after
  pub cause : IsCause disk_of fault (length before) old new
  pub stands : RecoversAsBefore disk_of old new

-- Opening was refused: at one of the disks, or because memory ran out before the first.
abbrev pub IsOpeningRefused : {D : Type 0} → DiskGhosts D → OpenFault → List D → List D → Type 0
IsOpeningRefused disk_of fault olds news =
    ((fault ≡ Memory) × (news ≡ olds)) ⊎ StopsAt disk_of fault olds news
