-- Desks that were opened from disks, and disks of desks that were closed, place by place.
use Rattle.std.specs.Prelude.{◌≡◌, ℕ, ◌≤◌, suc, None, List, [], ◌∷◌, IfSome, ⊤}
use Rattle.std.specs.Option.{option_map}
use Rattle.disk_api.specs.declared.disk.Disk.{Ghosts as DiskGhosts}
use Rattle.gate_journal.specs.Format.{recovered, damaged_at, opened}
use Rattle.authority_book.specs.declared.commands.Command.{Command}
use Rattle.desk_core.specs.View.{View, journal_limit}
use Rattle.desk_core.specs.Commands.{HasCommands}
use Rattle.desk_core.specs.Images.{RecoversTo, RecoversToKnown}
use Rattle.desk_core.specs.declared.faults.DeskOpenFault.{DeskOpenFault}
use Rattle.desk_core.specs.declared.faults.DeskOpenFault.TheVariants as desk
use Rattle.krill_top.specs.declared.faults.OpenFault.{OpenFault}
use Rattle.krill_top.specs.declared.faults.OpenFault.TheVariants.{Damaged, BadRecord, DiskFault, Memory}

-- The desk of that number was opened from the disk, and got no command since.
pub record IsOpened {D : Type 0} (disk_of : DiskGhosts D) (number : ℕ) (disk : D) (desk : View D) : Type 0 where
  pub number_is : desk.number ≡ number
  pub bytes : disk_of.content desk.disk ≡ option_map opened (disk_of.content disk)
  pub records : IfSome (disk_of.content disk) (λ bytes. desk.records ≡ recovered bytes)
  pub whole : IfSome (disk_of.content disk) (λ bytes. damaged_at journal_limit bytes ≡ None)
  pub commands : (commands : List Command) × HasCommands desk commands
  pub is_open : desk.shut ≡ None
  pub settled : desk.doubt ≡ None
  pub later : disk_of.fault_count disk ≤ disk_of.fault_count desk.disk

-- The disk is that of the desk, and holds its records.
pub record IsClosed {D : Type 0} (disk_of : DiskGhosts D) (desk : View D) (disk : D) : Type 0 where
  pub same : disk ≡ desk.disk
  pub known : IfSome (disk_of.content disk) (RecoversTo desk.records desk.doubt)
  pub images : (c : List ℕ) → disk_of.may_leave disk c → RecoversToKnown (disk_of.content disk) desk.records desk.doubt c

-- So of each disk and desk, from this number on.
abbrev pub AreOpened : {D : Type 0} → DiskGhosts D → ℕ → List D → List (View D) → Type 0
AreOpened disk_of number [] [] = ⊤
AreOpened disk_of number [] (desk ∷ desks) = ⊥
AreOpened disk_of number (disk ∷ disks) [] = ⊥
AreOpened disk_of number (disk ∷ disks) (desk ∷ desks) =
    IsOpened disk_of number disk desk × AreOpened disk_of (suc number) disks desks

abbrev pub AreClosed : {D : Type 0} → DiskGhosts D → List (View D) → List D → Type 0
AreClosed disk_of [] [] = ⊤
AreClosed disk_of [] (disk ∷ disks) = ⊥
AreClosed disk_of (desk ∷ desks) [] = ⊥
AreClosed disk_of (desk ∷ desks) (disk ∷ disks) =
    IsClosed disk_of desk disk × AreClosed disk_of desks disks

-- what a desk's fault is called of the device of that number
abbrev pub opening_fault_of : ℕ → DeskOpenFault → OpenFault
opening_fault_of device (desk.Damaged at) = Damaged device at
opening_fault_of device (desk.BadRecord at) = BadRecord device at
opening_fault_of device desk.DiskFault = DiskFault device
opening_fault_of device desk.Memory = Memory
