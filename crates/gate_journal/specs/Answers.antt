-- When a call of a journal is refused, and what each refusal leaves.
use Rattle.std.specs.Prelude.{◌≡◌, ◌<◌, ◌≤◌, ℕ, ◌+◌, Some, None, Result, Ok, Err, List, length}
use Rattle.std.specs.Option.{unwrap_or}
use Rattle.host_calls.specs.Rise.{HasRisen}
use Rattle.disk_api.specs.declared.disk.Disk.{Ghosts as DiskGhosts}
use Rattle.gate_journal.specs.Format.{held_for}
use Rattle.gate_journal.specs.View.{View}
use Rattle.gate_journal.specs.declared.fault.OpenRefused.{OpenRefused}
use Rattle.gate_journal.specs.declared.fault.JournalFault.{JournalFault}
use Rattle.gate_journal.specs.declared.fault.JournalFault.TheVariants.{DiskFault as ReadFault, Damaged, Memory}
use Rattle.gate_journal.specs.declared.fault.AppendFault.{AppendFault}
use Rattle.gate_journal.specs.declared.fault.AppendFault.TheVariants.{Shut, JournalFull, DiskFault}

-- the journal is open, and a record of the needed bytes fits
pub record CanAppend {D : Type 0} (journal : View D) (needed : ℕ) : Type 0 where
  pub is_open : journal.shut ≡ None
  pub fits : held_for journal.sizes + needed ≤ journal.limit

pub record IsShutAnswer {D : Type 0} (rose : ℕ × ℕ) (old new : View D) : Type 0 where
  pub shut : old.shut ≡ Some rose
  pub same : new ≡ old

pub record IsFullAnswer {D : Type 0} (held needed asked : ℕ) (old new : View D) : Type 0 where
  pub is_open : old.shut ≡ None
  pub held_is : held ≡ held_for old.sizes
  pub needed_is : needed ≡ asked
  pub past : old.limit < held + needed
  pub same : new ≡ old

pub record IsFaultAnswer {D : Type 0} (disk_of : DiskGhosts D) (rose : ℕ × ℕ) (payload : List ℕ) (old new : View D) : Type 0 where
  pub place : CanAppend old (length payload + 9)
  pub before : rose.0 ≡ disk_of.fault_count old.disk
  pub after : rose.1 ≡ disk_of.fault_count new.disk
  pub risen : HasRisen rose.0 rose.1
  pub shut : new.shut ≡ Some rose
  pub doubt : new.doubt ≡ Some payload

-- why a record that takes so many bytes isn't appended
abbrev pub IsRefusal : {D : Type 0} → AppendFault D → ℕ → View D → Type 0
IsRefusal (Shut rose) asked journal = IsShutAnswer rose journal journal
IsRefusal (JournalFull held needed) asked journal = IsFullAnswer held needed asked journal journal
IsRefusal (DiskFault rose) asked journal = ⊥

abbrev pub IsAppendFault : {D : Type 0} → DiskGhosts D → AppendFault D → List ℕ → View D → View D → Type 0
IsAppendFault disk_of (Shut rose) payload old new = IsShutAnswer rose old new
IsAppendFault disk_of (JournalFull held needed) payload old new = IsFullAnswer held needed (length payload + 9) old new
IsAppendFault disk_of (DiskFault rose) payload old new = IsFaultAnswer disk_of rose payload old new

-- a fault of the disk shuts the journal, if it wasn't; a record that was found is never answered as damaged
abbrev pub IsReadFault : {D : Type 0} → DiskGhosts D → JournalFault → View D → View D → Type 0
IsReadFault disk_of ReadFault old new = HasRisen (disk_of.fault_count old.disk) (disk_of.fault_count new.disk) × (new.shut ≡ Some (unwrap_or old.shut (disk_of.fault_count old.disk, disk_of.fault_count new.disk)))
IsReadFault disk_of (Damaged at) old new = ⊥
IsReadFault disk_of Memory old new = new.shut ≡ old.shut

-- the same but for the disk and whether it is shut
abbrev pub IsSameButDisk : {D : Type 0} → View D → View D → Type 0
IsSameButDisk old new = new ≡ record old { disk = new.disk; shut = new.shut }

-- the disk, whatever opening answered
abbrev pub disk_after : {D : Type 0} → Result (View D) (OpenRefused D) → D
disk_after (Ok journal) = journal.disk
disk_after (Err refused) = refused.disk
