-- Faults of the disks and of the outlet since the store was opened.
use Rattle.std.specs.Prelude.{◌≤◌, ⊤, ℕ, List, [], ◌∷◌, Option, IfSome, get_or}
use Rattle.host_calls.specs.Rise.{HasRisen}
use Rattle.disk_api.specs.declared.disk.Disk.{Ghosts as DiskGhosts}
use Rattle.outlet_api.specs.declared.outlet.Outlet.{Ghosts as OutletGhosts}
use Rattle.outlet_api.specs.declared.exports.ExportFault.{ExportFault}
use Rattle.outlet_api.specs.declared.exports.ExportFault.TheVariants.{OutletFault, Memory}
use Rattle.gate_journal.specs.View as journal
use Rattle.desk_core.specs.View.{View}
use Rattle.manager.specs.Named.{Named}

-- The counts of faults before and after a call that met one, between this count and that.
pub record IsRise (first now : ℕ) (rose : ℕ × ℕ) : Type 0 where
  pub since : first ≤ rose.0
  pub risen : HasRisen rose.0 rose.1
  pub up_to : rose.1 ≤ now

-- The disk's count is no less than this one; and where a call shut the journal, it rose in that call.
pub record IsRisen {D : Type 0} (disk_of : DiskGhosts D) (first : ℕ) (disk : D)
    (shut_by : Option (ℕ × ℕ)) : Type 0 where
  pub later : first ≤ disk_of.fault_count disk
  pub shut : IfSome shut_by (IsRise first (disk_of.fault_count disk))

-- So of the disk of a desk since it was opened.
abbrev pub IsRisenDesk : {D : Type 0} → DiskGhosts D → Named → View D → Type 0
IsRisenDesk disk_of named desk =
    IsRisen disk_of (get_or named.faults.desks desk.number 0) desk.disk desk.shut

-- And of each of them.
abbrev pub AreRisenDesks : {D : Type 0} → DiskGhosts D → Named → List (View D) → Type 0
AreRisenDesks disk_of named [] = ⊤
AreRisenDesks disk_of named (desk ∷ desks) =
    IsRisenDesk disk_of named desk × AreRisenDesks disk_of named desks

-- So of the disk of the press; and the outlet's count is no less than then.
pub record IsRisenPress {D O : Type 0} (disk_of : DiskGhosts D) (outlet_of : OutletGhosts O)
    (named : Named) (kept : journal.View D) (outlet : O) : Type 0 where
  pub disk : IsRisen disk_of named.faults.press kept.disk kept.shut
  pub outlet_later : named.faults.outlet ≤ outlet_of.fault_count outlet

-- An export that failed by a fault of the outlet brings its counts before and after.
abbrev pub IsExportRise : {O : Type 0} → ℕ → ℕ → ExportFault O → Type 0
IsExportRise first now (OutletFault rose) = IsRise first now rose
IsExportRise first now Memory = Unit {0}
