-- What comes of a command that is given to the authority of a name.
use Rattle.std.specs.Prelude.{◌≡◌, ℕ, ◌+◌, ◌<◌, ◌≤◌, List, [], ◌∷◌, ◌++◌, length, map, Option}
use Rattle.std.specs.Prelude.{None, Some, Result, Ok, Err}
use Rattle.authority_book.specs.declared.commands.Command.{Command}
use Rattle.authority_book.specs.declared.refusals.Refusal.{Refusal}
use Rattle.authority_book.specs.Verdict.{verdict_of}
use Rattle.authority_book.specs.Fold.{fold_of}
use Rattle.cmd_codec.specs.Spelling.{spelling}
use Rattle.gate_journal.specs.Format.{held_by}
use Rattle.desk_core.specs.View.{journal_limit}
use Rattle.desk_core.specs.Answers.{DeskRise, desk_of, needed_for}
use Rattle.desk_core.specs.declared.faults.DeskFault.{DeskFault}
use Rattle.desk_core.specs.declared.faults.DeskFault.TheVariants as desk
use Rattle.krill_top.specs.declared.command_fault.CommandFault.{CommandFault}
use Rattle.krill_top.specs.declared.command_fault.CommandFault.TheVariants as faults
use Rattle.krill_top.specs.DeskStates.{DeskStates, DeskState, ChangesOne, desk_named}

pub data Outcome : Type 0 where
  -- it is accepted, as that many commands of its desk are then
  Accepted : ℕ → Outcome
  NoSuchAuthority : Outcome
  -- with the word of the desk's disk that failed, now or before
  Shut : DeskRise → Outcome
  Verdict : Refusal → Outcome
  JournalFull : ℕ → ℕ → Outcome
  DiskFault : DeskRise → Outcome
  Memory : Outcome

-- How many bytes the journal of a desk's accepted commands takes.
abbrev pub held_in : DeskState → ℕ
held_in desk = held_by (map spelling desk.commands)

-- The journal is open, and the verdict on the command is Ok where there are so many signers.
pub record MayCome (number : ℕ) (desk : DeskState) (command : Command) (signers : ℕ) : Type 0 where
  pub is_open : desk.doubt ≡ None
  pub verdict : verdict_of (fold_of number desk.commands) command (Some signers) ≡ Ok tt

-- And its record fits into the desk's journal.
pub record CanBeAccepted (number : ℕ) (desk : DeskState) (command : Command) (signers : ℕ)
    : Type 0 where
  pub may_come : MayCome number desk command signers
  pub fits : held_in desk + needed_for command ≤ journal_limit

-- The command stands at the end of its desk's, and its place there is counted from 1.
pub record IsAccepted (number : ℕ) (command : Command) (signers count : ℕ) (was is : DeskState)
    : Type 0 where
  pub place : CanBeAccepted number was command signers
  pub grown : is ≡ record { commands = was.commands ++ command ∷ []; doubt = None }
  pub counted : count ≡ length is.commands

pub record IsShut (number : ℕ) (rise : DeskRise) (was is : DeskState) : Type 0 where
  pub desk : desk_of rise ≡ number
  pub shut : ¬ (was.doubt ≡ None)
  pub same : is ≡ was

pub record IsRefused (number : ℕ) (command : Command) (signers : ℕ) (refusal : Refusal)
    (was is : DeskState) : Type 0 where
  pub is_open : was.doubt ≡ None
  pub verdict : verdict_of (fold_of number was.commands) command (Some signers) ≡ Err refusal
  pub same : is ≡ was

pub record IsFull (number : ℕ) (command : Command) (signers held needed : ℕ) (was is : DeskState)
    : Type 0 where
  pub may_come : MayCome number was command signers
  pub held_is : held ≡ held_in was
  pub needed_is : needed ≡ needed_for command
  pub past : journal_limit < held + needed
  pub same : is ≡ was

-- The disk failed while the command's record was stored. It may stand there, and no more are stored.
pub record IsInDoubt (number : ℕ) (command : Command) (signers : ℕ) (rise : DeskRise)
    (was is : DeskState) : Type 0 where
  pub place : CanBeAccepted number was command signers
  pub desk : desk_of rise ≡ number
  pub doubted : is ≡ record { commands = was.commands; doubt = Some command }

-- Memory was wanting, before anything was stored.
pub record IsWithoutMemory (number : ℕ) (command : Command) (signers : ℕ) (was is : DeskState)
    : Type 0 where
  pub place : CanBeAccepted number was command signers
  pub same : is ≡ was

-- What the desk of that number makes of a command.
abbrev pub Does : ℕ → Command → ℕ → Outcome → DeskState → DeskState → Type 0
Does number command signers (Accepted count) was is =
    IsAccepted number command signers count was is
Does number command signers NoSuchAuthority was is = ⊥
Does number command signers (Shut rise) was is = IsShut number rise was is
Does number command signers (Verdict refusal) was is =
    IsRefused number command signers refusal was is
Does number command signers (JournalFull held needed) was is =
    IsFull number command signers held needed was is
Does number command signers (DiskFault rise) was is = IsInDoubt number command signers rise was is
Does number command signers Memory was is = IsWithoutMemory number command signers was is

-- That no authority has the name, or what the desk of that number makes of the command. No other desk
-- changes.
abbrev pub CommandedAt : Option ℕ → Command → ℕ → Outcome → DeskStates → DeskStates → Type 0
CommandedAt None command signers outcome before after =
    (outcome ≡ NoSuchAuthority) × (after ≡ before)
CommandedAt (Some number) command signers outcome before after =
    ChangesOne number (Does number command signers outcome) before after

-- A command to the authority of that name comes to this.
abbrev pub Commanded : List ℕ → Command → ℕ → Outcome → DeskStates → DeskStates → Type 0
Commanded name command signers outcome before after =
    CommandedAt (desk_named before name) command signers outcome before after

-- What a desk's fault is called here.
abbrev pub command_fault_of : {D : Type 0} → DeskFault D → CommandFault D
command_fault_of (desk.Shut rose) = faults.Shut rose
command_fault_of (desk.Verdict refusal) = faults.Verdict refusal
command_fault_of (desk.JournalFull held needed) = faults.JournalFull held needed
command_fault_of (desk.DiskFault rose) = faults.DiskFault rose
command_fault_of desk.Memory = faults.Memory

-- What the call answers.
abbrev pub fault_outcome : {D : Type 0} → CommandFault D → Outcome
fault_outcome faults.NoSuchAuthority = NoSuchAuthority
fault_outcome (faults.Shut rose) = Shut rose
fault_outcome (faults.Verdict refusal) = Verdict refusal
fault_outcome (faults.JournalFull held needed) = JournalFull held needed
fault_outcome (faults.DiskFault rose) = DiskFault rose
fault_outcome faults.Memory = Memory

abbrev pub outcome_of : {D : Type 0} → Result ℕ (CommandFault D) → Outcome
outcome_of (Ok count) = Accepted count
outcome_of (Err fault) = fault_outcome fault
