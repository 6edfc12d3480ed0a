-- When a command is refused, and what each refusal leaves.
use Rattle.std.specs.Prelude.{◌≡◌, ◌<◌, ◌≤◌, ◌+◌, ℕ, Some, None, Ok, Err, Result, length}
use Rattle.host_calls.specs.Rise.{HasRisen}
use Rattle.disk_api.specs.declared.disk.Disk.{Ghosts as DiskGhosts}
use Rattle.authority_book.specs.declared.commands.Command.{Command}
use Rattle.authority_book.specs.declared.refusals.Refusal.{Refusal}
use Rattle.authority_book.specs.Verdict.{verdict_of}
use Rattle.cmd_codec.specs.Spelling.{spelling, IsRecordable}
use Rattle.desk_core.specs.View.{View, journal_limit}
use Rattle.desk_core.specs.declared.faults.DeskFault.{DeskFault}
use Rattle.desk_core.specs.declared.faults.DeskFault.TheVariants.{Shut, Verdict, JournalFull, DiskFault, Memory}
use Rattle.desk_core.specs.declared.faults.DeskRefused.{DeskRefused}
use Rattle.desk_core.specs.declared.faults.DeskOpenFault.{DeskOpenFault}
use Rattle.desk_core.specs.declared.faults.DeskOpenFault.TheVariants as opening
use Rattle.gate_journal.specs.Format.{held_by}
use Rattle.gate_journal.specs.declared.fault.JournalFault.{JournalFault}
use Rattle.gate_journal.specs.declared.fault.JournalFault.TheVariants as journal
use Rattle.gate_journal.specs.declared.fault.AppendFault.{AppendFault}
use Rattle.gate_journal.specs.declared.fault.AppendFault.TheVariants as append

-- a rise of a desk's fault count: the desk's number, and the counts before and after
abbrev pub DeskRise : Type 0
DeskRise = ℕ × (ℕ × ℕ)

abbrev pub desk_of : DeskRise → ℕ
desk_of (desk, counts) = desk

abbrev pub counts_of : DeskRise → ℕ × ℕ
counts_of (desk, counts) = counts

abbrev pub before_of : DeskRise → ℕ
before_of (desk, (before, after)) = before

abbrev pub after_of : DeskRise → ℕ
after_of (desk, (before, after)) = after

-- how many bytes a command takes in the journal
abbrev pub needed_for : Command → ℕ
needed_for command = length (spelling command) + 9

-- the journal is open, and the verdict on the command is Ok
pub record MayCome {D : Type 0} (desk : View D) (command : Command) (signers : ℕ) : Type 0 where
  pub is_open : desk.shut ≡ None
  pub verdict : verdict_of desk.settings command (Some signers) ≡ Ok tt

-- and its record fits
pub record CanCommit {D : Type 0} (desk : View D) (command : Command) (signers : ℕ) : Type 0 where
  pub may_come : MayCome desk command signers
  pub fits : held_by desk.records + needed_for command ≤ journal_limit

pub record IsVerdictAnswer {D : Type 0} (refusal : Refusal) (command : Command) (signers : ℕ) (old new : View D) : Type 0 where
  pub is_open : old.shut ≡ None
  pub verdict : verdict_of old.settings command (Some signers) ≡ Err refusal
  pub same : new ≡ old

pub record IsShutAnswer {D : Type 0} (rose : DeskRise) (old new : View D) : Type 0 where
  pub desk : desk_of rose ≡ old.number
  pub shut : old.shut ≡ Some (counts_of rose)
  pub same : new ≡ old

pub record IsFullAnswer {D : Type 0} (held needed : ℕ) (command : Command) (signers : ℕ) (old new : View D) : Type 0 where
  pub may_come : MayCome old command signers
  pub held_is : held ≡ held_by old.records
  pub needed_is : needed ≡ needed_for command
  pub past : journal_limit < held + needed
  pub same : new ≡ old

-- the disk failed in this call; the record may stand on it
pub record IsFaultAnswer {D : Type 0} (disk_of : DiskGhosts D) (rose : DeskRise) (command : Command) (signers : ℕ) (old new : View D) : Type 0 where
  pub place : CanCommit old command signers
  pub desk : desk_of rose ≡ old.number
  pub before : before_of rose ≡ disk_of.fault_count old.disk
  pub after : after_of rose ≡ disk_of.fault_count new.disk
  pub risen : HasRisen (before_of rose) (after_of rose)
  pub recordable : IsRecordable command
  pub same : new ≡ record old { disk = new.disk; shut = Some (counts_of rose); doubt = Some (spelling command) }

-- memory ran out before anything was written
pub record IsMemoryAnswer {D : Type 0} (command : Command) (signers : ℕ) (old new : View D) : Type 0 where
  pub place : CanCommit old command signers
  pub same : new ≡ old

abbrev pub IsDeskFault : {D : Type 0} → DiskGhosts D → DeskFault D → Command → ℕ → View D → View D → Type 0
IsDeskFault disk_of (Shut rose) command signers old new = IsShutAnswer rose old new
IsDeskFault disk_of (Verdict refusal) command signers old new = IsVerdictAnswer refusal command signers old new
IsDeskFault disk_of (JournalFull held needed) command signers old new = IsFullAnswer held needed command signers old new
IsDeskFault disk_of (DiskFault rose) command signers old new = IsFaultAnswer disk_of rose command signers old new
IsDeskFault disk_of Memory command signers old new = IsMemoryAnswer command signers old new

-- what a journal's fault is called here
abbrev pub open_fault_of : JournalFault → DeskOpenFault
open_fault_of journal.DiskFault = opening.DiskFault
open_fault_of (journal.Damaged at) = opening.Damaged at
open_fault_of journal.Memory = opening.Memory

-- what a journal's refusal is for the desk of this number
abbrev pub fault_of : {D : Type 0} → ℕ → AppendFault D → DeskFault D
fault_of number (append.Shut rose) = Shut (number, rose)
fault_of number (append.JournalFull held needed) = JournalFull held needed
fault_of number (append.DiskFault rose) = DiskFault (number, rose)

-- the disk, whatever opening answered
abbrev pub disk_after : {D : Type 0} → Result (View D) (DeskRefused D) → D
disk_after (Ok desk) = desk.disk
disk_after (Err refused) = refused.disk
