-- What a publication answers.
use Rattle.std.specs.Prelude.{◌≡◌, ◌⊎◌, ◌≤◌, ◌+◌, ◌==◌, ◌||◌, ℕ, Bool, true, false, List, [], ◌∷◌, ◌++◌}
use Rattle.std.specs.Prelude.{Option, None, Some, IfSome, Result, Ok, Err, length}
use mathlib.Core.List.{IsPrefix}
use Rattle.disk_api.specs.declared.disk.Disk.{Ghosts as DiskGhosts}
use Rattle.commit_word.specs.Seats.{FollowerSeat}
use Rattle.gate_journal.specs.View as journal
use Rattle.notice_board.specs.Lists.{last_serial}
use Rattle.notice_board.specs.declared.shown.ShownEdition.{ShownEdition}
use Rattle.editions.specs.Edition.{cut_at}
use Rattle.editions.specs.Moments.{moment_behind}
use Rattle.editions.specs.PublishedState.{PublishedStateValue}
use Rattle.editions.specs.declared.published_state.PublishedNumbers.{PublishedNumbers}
use Rattle.press_core.specs.declared.last_export.LastExport.{LastExport}
use Rattle.press_core.specs.declared.last_export.LastExport.TheVariants.{NoExport, Failed, Done}
use Rattle.press_core.specs.PrepareInput.{PrepareInput}
use Rattle.press_core.specs.Stored.{StoredValue}
use Rattle.press_core.specs.StoredAnswers.{IsPrepareFault, rose_of}
use Rattle.press_core.specs.declared.stored_fault.PrepareFault.TheVariants as prepare
use Rattle.manager.specs.Lists.{seat_at}
use Rattle.manager.specs.declared.publish_fault.Unmade.{Unmade}
use Rattle.manager.specs.declared.publish_fault.Unmade.TheVariants.{Unprepared, Uncommitted}
use Rattle.manager.specs.declared.publish_fault.PublishFault.{PublishFault}
use Rattle.manager.specs.declared.publish_fault.PublishFault.TheVariants as refused

-- The edition that was shown last takes in all that is known of each desk.
pub record IsShownLast (known : List FollowerSeat) (shown : List ShownEdition)
    (edition : ShownEdition) : Type 0 where
  pub before : List ShownEdition
  pub last : shown ≡ before ++ edition ∷ []
  pub cut : (desk : ℕ) → length (seat_at known desk).seen ≤ cut_at edition.numbers.cut desk

-- And it has that serial.
pub record IsShownTo (serial : ℕ) (known : List FollowerSeat) (shown : List ShownEdition)
    : Type 0 where
  pub edition : ShownEdition
  pub is : IsShownLast known shown edition
  pub serial_is : edition.sheet.serial ≡ serial

-- And these are its numbers.
pub record IsAnswered (told : PublishedNumbers) (known : List FollowerSeat)
    (shown : List ShownEdition) : Type 0 where
  pub edition : ShownEdition
  pub is : IsShownLast known shown edition
  pub serial : edition.sheet.serial ≡ told.serial
  pub moment : edition.sheet.moment ≡ told.moment
  pub objects : edition.numbers.objects ≡ told.objects
  pub origins : edition.numbers.origins ≡ told.origins

-- It has the next serial; and the clock's moment, or that just behind the last one.
pub record IsBehind (clock : ℕ) (at : PublishedStateValue) (told : PublishedNumbers) : Type 0 where
  pub serial : told.serial ≡ at.serial + 1
  pub moment : told.moment ≡ moment_behind clock at.moment

-- One edition more is shown, which was made at this clock behind the one that was shown last: it has the
-- next serial; and the clock's moment, or that just behind the last one. Both are what is told of it.
pub record IsNextShown (clock : ℕ) (old : List ShownEdition) (told : PublishedNumbers)
    (new : List ShownEdition) : Type 0 where
  pub before : List ShownEdition
  pub standing : ShownEdition
  pub edition : ShownEdition
  pub stood : old ≡ before ++ standing ∷ []
  pub last : new ≡ old ++ edition ∷ []
  pub serial : told.serial ≡ standing.sheet.serial + 1
  pub moment : told.moment ≡ moment_behind clock standing.sheet.moment
  pub serial_is : edition.sheet.serial ≡ told.serial
  pub moment_is : edition.sheet.moment ≡ told.moment

-- So behind all that was seen before, and perhaps behind editions that weren't.
pub record IsNewlyShown (clock : ℕ) (seen : List ShownEdition) (told : PublishedNumbers)
    (new : List ShownEdition) : Type 0 where
  pub old : List ShownEdition
  pub grows : IsPrefix seen old
  pub next : IsNextShown clock old told new

-- ---- why nothing was published

-- The serial behind which there was nothing to publish, where that is why.
abbrev pub nothing_behind : {D : Type 0} → Unmade D → Option ℕ
nothing_behind (Unprepared (prepare.Nothing serial met)) = Some serial
nothing_behind other = None

-- The edition of that serial stands. It takes in all that is known where there was nothing to publish,
-- or where it couldn't be exported.
abbrev pub IsNotPublished : {D O : Type 0} → List FollowerSeat → List ShownEdition → PublishFault D O
    → Type 0
IsNotPublished known shown (refused.Unmade serial fault) = (last_serial shown ≡ serial)
    × IfSome (nothing_behind fault) (λ behind. IsShownTo behind known shown)
IsNotPublished known shown (refused.Repeated serial fault) =
    (nothing_behind fault ≡ Some serial) × IsShownTo serial known shown
IsNotPublished known shown (refused.Unexported serial fault) = IsShownTo serial known shown

-- None more is shown, but where one was made at this clock that couldn't be brought to the outlet.
abbrev pub IsStill : {D O : Type 0} → ℕ → List ShownEdition → List ShownEdition → PublishFault D O
    → Type 0
IsStill clock old new (refused.Unmade serial fault) = new ≡ old
IsStill clock old new (refused.Repeated serial fault) = new ≡ old
IsStill clock old new (refused.Unexported serial fault) = (new ≡ old)
    ⊎ ((told : PublishedNumbers) × (told.serial ≡ serial) × IsNextShown clock old told new)

-- The edition of that serial couldn't be brought to the outlet.
abbrev pub IsUnexported : {D O : Type 0} → ℕ → PublishFault D O → Type 0
IsUnexported serial (refused.Unmade standing fault) = ⊥
IsUnexported serial (refused.Repeated standing fault) = ⊥
IsUnexported serial (refused.Unexported standing fault) = standing ≡ serial

-- ---- what met it

-- The disk failed in this call, and the journal is shut since then.
pub record IsFailedBy {D : Type 0} (disk_of : DiskGhosts D) (rose : ℕ × ℕ)
    (old new : journal.View D) : Type 0 where
  pub before : rose.0 ≡ disk_of.fault_count old.disk
  pub after : rose.1 ≡ disk_of.fault_count new.disk
  pub shut : new.shut ≡ Some rose

-- None was prepared, for one of the press's own reasons; or the disk failed while it was committed.
abbrev pub IsUnmadeFor : {D : Type 0} → DiskGhosts D → PrepareInput → StoredValue D
    → StoredValue D → Unmade D → Type 0
IsUnmadeFor disk_of start old new (Unprepared fault) =
    IsPrepareFault start new.press.ring old.journal fault
IsUnmadeFor disk_of start old new (Uncommitted fault) =
    IsFailedBy disk_of (rose_of fault) old.journal new.journal

-- So of a publication, where no edition was made.
abbrev pub IsMetBy : {D O : Type 0} → DiskGhosts D → PrepareInput → StoredValue D → StoredValue D
    → PublishFault D O → Type 0
IsMetBy disk_of start old new (refused.Unmade serial fault) =
    IsUnmadeFor disk_of start old new fault
IsMetBy disk_of start old new (refused.Repeated serial fault) =
    IsUnmadeFor disk_of start old new fault
IsMetBy disk_of start old new (refused.Unexported serial fault) = Unit {0}

-- It tells this fault, where it tells one of those.
abbrev pub IsFaultOf : {D O : Type 0} → Unmade D → PublishFault D O → Type 0
IsFaultOf fault (refused.Unmade serial told) = told ≡ fault
IsFaultOf fault (refused.Repeated serial told) = told ≡ fault
IsFaultOf fault (refused.Unexported serial told) = Unit {0}

-- ---- exports

-- Whether the last edition is at the outlet: there is none, or the last export was of it and ended well.
abbrev pub is_of : LastExport → ℕ → Bool
is_of NoExport serial = false
is_of Failed serial = false
is_of (Done exported) serial = exported == serial

abbrev pub is_exported : LastExport → ℕ → Bool
is_exported last serial = (serial == 0) || is_of last serial

-- Where there was nothing to publish, the last edition is at the outlet, brought there in this call or
-- before; or its export failed, and the next publication repeats it.
abbrev pub IsExportLeft : {D O : Type 0} → LastExport → ℕ → PublishFault D O → Type 0
IsExportLeft last serial (refused.Unmade standing fault) =
    IfSome (nothing_behind fault) (λ behind. is_exported last serial ≡ true)
IsExportLeft last serial (refused.Repeated standing fault) = last ≡ Done serial
IsExportLeft last serial (refused.Unexported standing fault) = last ≡ Failed

-- In the end the last edition is brought to the outlet, or is there already; or it can't be.
abbrev pub IsRepeated : {E : Type 0} → LastExport → ℕ → Result Bool E → Type 0
IsRepeated last serial (Ok true) = last ≡ Done serial
IsRepeated last serial (Ok false) = is_exported last serial ≡ true
IsRepeated last serial (Err fault) = last ≡ Failed
