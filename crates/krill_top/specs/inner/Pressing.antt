-- What a press makes of the desks' commands, before the instance takes it in.
use Rattle.std.specs.Prelude.{◌≡◌, ◌⊎◌, ◌≤◌, ℕ, None, Some, IfSome, IsSome, List, [], ◌∷◌, ◌++◌}
use Rattle.host_calls.specs.Rise.{HasRisen}
use Rattle.disk_api.specs.declared.disk.Disk.{Ghosts as DiskGhosts}
use Rattle.desk_core.specs.View.{View}
use Rattle.gate_journal.specs.View.{IsSameButRoom, HasSizes}
use Rattle.signer_api.specs.State.{SignerState}
use Rattle.signer_ring.specs.Ring.{Keeps}
use Rattle.notice_board.specs.declared.sheets.Sheet.{Sheet}
use Rattle.editions.specs.declared.gathered.Gathered.{Gathered}
use Rattle.editions.specs.declared.published_state.PublishedNumbers.{PublishedNumbers}
use Rattle.editions.specs.PublishedState.{published_of}
use Rattle.editions.specs.Sheets.{sheet_of}
use Rattle.press_core.specs.Press.{DropsEach}
use Rattle.press_core.specs.Signers.{HoldKeys}
use Rattle.press_core.specs.PrepareInput.{start_of}
use Rattle.press_core.specs.Next.{NextValue}
use Rattle.press_core.specs.Files.{HasFilesOf}
use Rattle.press_core.specs.Follows.{edition_of, IsNextEdition}
use Rattle.press_core.specs.Stands.{IsLeftBy}
use Rattle.press_core.specs.JournalRecords.{IsRecordOf}
use Rattle.press_core.specs.Stored.{StoredValue, StoredPreparedValue, HasRecordsOf, CanCommit}
use Rattle.press_core.specs.StoredAnswers.{IsPrepareFault, rose_of}
use Rattle.press_core.specs.declared.stored_fault.PrepareFault.{PrepareFault}
use Rattle.press_core.specs.declared.stored_fault.PrepareFault.TheVariants as prepare
use Rattle.authority_book.specs.declared.commands.Command.{Command}
use Rattle.editions.specs.Edition.{Edition}
use Rattle.krill_top.specs.declared.publish_fault.PublishFault.{PublishFault}
use Rattle.krill_top.specs.declared.publish_fault.PublishFault.TheVariants.{Unprepared, Uncommitted}
use Rattle.krill_top.specs.inner.Gathered.{AreSince}
use Rattle.krill_top.specs.inner.Room.{FitsBehind}

-- An edition was prepared of all commands behind the cut, with what readers will be shown of it. It can be
-- written: the press is as it was but for its signers, and its journal but for its room.
pub record IsReady {D : Type 0} (clock : ℕ) (desks : List (View D)) (old new : StoredValue D)
    (prepared : StoredPreparedValue) (sheet : Sheet) : Type 0 where
  pub groups : List Gathered
  pub since : AreSince 0 desks old.press.at.cut groups
  pub edition : IsNextEdition (start_of old.press clock groups) new.press.ring prepared.edition
  pub kept : Keeps old.press.ring new.press.ring
  pub held : HoldKeys old.press.ring new.press.ring
  pub same : new.press ≡ record old.press { ring = new.press.ring }
  pub journal : IsSameButRoom old.journal new.journal
  pub can : CanCommit new prepared
  pub room : FitsBehind old prepared.edition
  pub sheet_is : sheet ≡ sheet_of prepared.edition.next

-- An edition was prepared of all commands behind the cut, and is the press's last one now, and a record
-- of its journal; then the keys that it ended were dropped.
pub record IsPressed {D : Type 0} (disk_of : DiskGhosts D) (clock : ℕ) (desks : List (View D))
    (old new : StoredValue D) (told : PublishedNumbers) (sheet : Sheet) : Type 0 where
  pub groups : List Gathered
  pub made : List SignerState
  pub prepared : NextValue
  pub since : AreSince 0 desks old.press.at.cut groups
  pub edition : IsNextEdition (start_of old.press clock groups) made prepared
  pub kept : Keeps old.press.ring made
  pub held : HoldKeys old.press.ring made
  pub at : new.press.at ≡ prepared.next
  pub site : new.press.site ≡ old.press.site
  pub session : new.press.rrdp.session ≡ old.press.rrdp.session
  pub last_export : new.press.last_export ≡ old.press.last_export
  pub files : (lists : List (List Command)) (editions : List Edition)
      → IsLeftBy lists editions old.press.at → HasFilesOf editions old.press
      → HasFilesOf (editions ++ edition_of prepared ∷ []) new.press
  pub dropped : DropsEach prepared.ended made new.press.ring
  pub still : Keeps made new.press.ring
  pub told_is : told ≡ published_of prepared.next
  pub sheet_is : sheet ≡ sheet_of prepared.next
  -- the journal
  pub was_open : old.journal.shut ≡ None
  pub limit : new.journal.limit ≡ old.journal.limit
  pub records : (lists : List (List Command)) (editions : List Edition)
      → IsLeftBy lists editions old.press.at → HasRecordsOf editions old
      → HasRecordsOf (editions ++ edition_of prepared ∷ []) new
  pub known : IsSome old.journal.records → IsSome new.journal.records
  pub known_before : IfSome new.journal.records (λ _. IsSome old.journal.records)
  pub room : FitsBehind old prepared
  pub is_open : new.journal.shut ≡ None
  pub settled : new.journal.doubt ≡ None
  pub later : disk_of.fault_count old.journal.disk ≤ disk_of.fault_count new.journal.disk

-- The press met why, with all commands behind the cut.
pub record IsMet {D : Type 0} (clock : ℕ) (desks : List (View D)) (old : StoredValue D)
    (ring : List SignerState) (fault : PrepareFault D) : Type 0 where
  pub groups : List Gathered
  pub since : AreSince 0 desks old.press.at.cut groups
  pub met : IsPrepareFault (start_of old.press clock groups) ring old.journal fault

-- None was prepared: the press is as it was but for its signers, and its journal but for its room.
pub record IsUnprepared {D : Type 0} (clock : ℕ) (desks : List (View D)) (old new : StoredValue D)
    (fault : PrepareFault D) : Type 0 where
  pub same : new.press ≡ record old.press { ring = new.press.ring }
  pub journal : IsSameButRoom old.journal new.journal
  pub sizes : HasSizes old.journal
  pub kept : Keeps old.press.ring new.press.ring
  pub held : HoldKeys old.press.ring new.press.ring
  pub cause : ((fault ≡ prepare.Memory) × (new.press.ring ≡ old.press.ring))
      ⊎ IsMet clock desks old new.press.ring fault

-- One was prepared, and the disk failed while its record was written.
pub record IsUncommitted {D : Type 0} (disk_of : DiskGhosts D) (clock : ℕ) (desks : List (View D))
    (old new : StoredValue D) (rose : ℕ × ℕ) : Type 0 where
  pub groups : List Gathered
  pub prepared : NextValue
  pub since : AreSince 0 desks old.press.at.cut groups
  pub edition : IsNextEdition (start_of old.press clock groups) new.press.ring prepared
  pub kept : Keeps old.press.ring new.press.ring
  pub held : HoldKeys old.press.ring new.press.ring
  pub same : new.press ≡ record old.press { ring = new.press.ring }
  pub was_open : old.journal.shut ≡ None
  pub limit : new.journal.limit ≡ old.journal.limit
  pub shut : new.journal.shut ≡ Some rose
  pub entry : List ℕ
  pub recorded : IsRecordOf old.press.at prepared entry
  pub doubt : new.journal.doubt ≡ Some entry
  pub records : new.journal.records ≡ old.journal.records
  pub room : FitsBehind old prepared
  pub risen : HasRisen (disk_of.fault_count old.journal.disk) (disk_of.fault_count new.journal.disk)
  pub later : disk_of.fault_count old.journal.disk ≤ disk_of.fault_count new.journal.disk

-- None was made, for this reason.
abbrev pub IsNotPressed : {D : Type 0} → DiskGhosts D → ℕ → List (View D) → StoredValue D
    → StoredValue D → PublishFault D → Type 0
IsNotPressed disk_of clock desks old new (Unprepared fault) =
    IsUnprepared clock desks old new fault
IsNotPressed disk_of clock desks old new (Uncommitted fault) =
    IsUncommitted disk_of clock desks old new (rose_of fault)
