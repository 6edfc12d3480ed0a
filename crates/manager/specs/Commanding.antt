-- What comes of a command that is given to the authority of a name.
use Rattle.std.specs.Prelude.{◌≡◌, ◌≢◌, ◌+◌, ◌<◌, ◌≤◌, ℕ, List, [], ◌∷◌, ◌++◌, map, length, None, Some, Ok, Err}
use mathlib.Core.List.{IsPrefix}
use Rattle.commit_word.specs.Seats.{FollowerSeat}
use Rattle.authority_book.specs.declared.commands.Command.{Command}
use Rattle.authority_book.specs.Verdict.{verdict_of}
use Rattle.authority_book.specs.Fold.{fold_of}
use Rattle.cmd_codec.specs.Spelling.{spelling}
use Rattle.gate_journal.specs.Format.{held_by}
use Rattle.desk_core.specs.View.{journal_limit}
use Rattle.desk_core.specs.Commands.{Records}
use Rattle.desk_core.specs.Answers.{needed_for, desk_of}
use Rattle.desk_core.specs.declared.faults.DeskFault.{DeskFault}
use Rattle.desk_core.specs.declared.faults.DeskFault.TheVariants as desk_fault
use Rattle.manager.specs.Lists.{seat_at}
use Rattle.manager.specs.Passes.{IsNamed, IsMore, KnowsMore}
use Rattle.manager.specs.declared.locked_desks_answers.CommandFault.{CommandFault}
use Rattle.manager.specs.declared.locked_desks_answers.CommandFault.TheVariants as command_fault

-- ---- at a desk

-- The verdict on the command after these is Ok where there are so many signers.
abbrev pub MayCome : ℕ → List Command → Command → ℕ → Type 0
MayCome desk before command signers = verdict_of (fold_of desk before) command (Some signers) ≡ Ok tt

-- And its record fits into the desk's journal behind theirs.
pub record CanCome (desk : ℕ) (before : List Command) (command : Command) (signers : ℕ) : Type 0 where
  pub may_come : MayCome desk before command signers
  pub fits : held_by (map spelling before) + needed_for command ≤ journal_limit

-- The command was accepted: it stands behind all others of the desk, and is counted. What was
-- seen grows by all that the desk has then; what was made is the record of the command, at its
-- place, which is behind all that was seen before, and nothing else.
pub record IsTaken (desk : ℕ) (command : Command) (signers count : ℕ) (old new : FollowerSeat)
    : Type 0 where
  pub before : List Command
  pub known : Records desk new.seen (before ++ command ∷ [])
  pub can_come : CanCome desk before command signers
  pub counted : count ≡ length before + 1
  pub grows : IsPrefix old.seen new.seen
  pub behind : IsPrefix old.seen (map spelling before)
  pub made : new ≡ record old {
    seen = map spelling before ++ spelling command ∷ [];
    mine = old.mine ++ (length before, spelling command) ∷ [];
  }

-- The refusal that these commands of the desk give. A fault of the disk, of this call or an
-- earlier one, is told by the desk's own word of it.
abbrev pub IsGivenBy : {D : Type 0} → DeskFault D → ℕ → List Command → Command → ℕ → Type 0
IsGivenBy (desk_fault.Shut rose) desk commands command signers = desk_of rose ≡ desk
IsGivenBy (desk_fault.Verdict refusal) desk commands command signers =
    verdict_of (fold_of desk commands) command (Some signers) ≡ Err refusal
IsGivenBy (desk_fault.JournalFull held needed) desk commands command signers =
    MayCome desk commands command signers
    × (held ≡ held_by (map spelling commands))
    × (needed ≡ needed_for command)
    × (journal_limit < held + needed)
IsGivenBy (desk_fault.DiskFault rose) desk commands command signers =
    CanCome desk commands command signers × (desk_of rose ≡ desk)
IsGivenBy desk_fault.Memory desk commands command signers = CanCome desk commands command signers

-- The command was refused, by all that is then known of the desk.
pub record IsRefusedAt {D : Type 0} (desk : ℕ) (command : Command) (signers : ℕ)
    (fault : DeskFault D) (old new : FollowerSeat) : Type 0 where
  pub more : IsMore old new
  pub commands : List Command
  pub known : Records desk new.seen commands
  pub given : IsGivenBy fault desk commands command signers

-- ---- by a name

-- The command to the authority of that name was accepted. Nothing was made at other desks.
pub record IsAccepted (name : List ℕ) (command : Command) (signers count : ℕ)
    (old new : List FollowerSeat) : Type 0 where
  pub desk : ℕ
  pub named : IsNamed new name (Some desk)
  pub taken : IsTaken desk command signers count (seat_at old desk) (seat_at new desk)
  pub desks : length new ≡ length old
  pub others : (other : ℕ) → other ≢ desk → IsMore (seat_at old other) (seat_at new other)

-- It was refused by the desk of that authority, and nothing was made.
pub record IsRefusedBy {D : Type 0} (name : List ℕ) (command : Command) (signers : ℕ)
    (fault : DeskFault D) (old new : List FollowerSeat) : Type 0 where
  pub desk : ℕ
  pub named : IsNamed new name (Some desk)
  pub refused : IsRefusedAt desk command signers fault (seat_at old desk) (seat_at new desk)
  pub more : KnowsMore old new

-- Or no authority has the name.
abbrev pub IsRefused : {D : Type 0} → List ℕ → Command → ℕ → CommandFault D → List FollowerSeat
    → List FollowerSeat → Type 0
IsRefused name command signers command_fault.NoSuchAuthority old new =
    KnowsMore old new × IsNamed new name None
IsRefused name command signers (command_fault.Refused fault) old new =
    IsRefusedBy name command signers fault old new
