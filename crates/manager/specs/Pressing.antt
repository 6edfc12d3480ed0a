-- What a press's calls make of it, one after another.
use Rattle.std.specs.Prelude.{◌≡◌, ◌≤◌, None, IfSome, IsSome, List, [], ◌∷◌, ◌++◌}
use Rattle.authority_book.specs.declared.commands.Command.{Command}
use Rattle.disk_api.specs.declared.disk.Disk.{Ghosts as DiskGhosts}
use Rattle.gate_journal.specs.View.{IsSameButRoom, HasSizes}
use Rattle.signer_ring.specs.Ring.{Keeps}
use Rattle.editions.specs.Edition.{Edition}
use Rattle.editions.specs.PublishedState.{published_of}
use Rattle.editions.specs.declared.published_state.PublishedNumbers.{PublishedNumbers}
use Rattle.press_core.specs.PrepareInput.{PrepareInput}
use Rattle.press_core.specs.Next.{NextValue}
use Rattle.press_core.specs.Press.{DropsEach}
use Rattle.press_core.specs.Signers.{HoldKeys}
use Rattle.press_core.specs.Follows.{edition_of, IsNextEdition}
use Rattle.press_core.specs.Stands.{IsLeftBy}
use Rattle.press_core.specs.Files.{HasFilesOf}
use Rattle.press_core.specs.Stored.{StoredValue, StoredPreparedValue, HasRecordsOf, CanCommit}
use Rattle.press_core.specs.StoredAnswers.{IsPrepareFault}
use Rattle.press_core.specs.declared.stored_fault.PrepareFault.{PrepareFault}
use Rattle.press_core.specs.declared.last_export.LastExport.{LastExport}

-- An edition was prepared, and can be committed: the press is as it was but for its signers, and its
-- journal but for its room.
pub record IsReady {D : Type 0} (start : PrepareInput) (old new : StoredValue D)
    (prepared : StoredPreparedValue) : Type 0 where
  pub edition : IsNextEdition start new.press.ring prepared.edition
  pub kept : Keeps old.press.ring new.press.ring
  pub held : HoldKeys old.press.ring new.press.ring
  pub same : new.press ≡ record old.press { ring = new.press.ring }
  pub journal : IsSameButRoom old.journal new.journal
  pub sizes : HasSizes new.journal
  pub can : CanCommit new prepared

-- None was prepared, for this reason.
pub record IsUnready {D : Type 0} (start : PrepareInput) (old new : StoredValue D)
    (fault : PrepareFault D) : Type 0 where
  pub kept : Keeps old.press.ring new.press.ring
  pub held : HoldKeys old.press.ring new.press.ring
  pub same : new.press ≡ record old.press { ring = new.press.ring }
  pub journal : IsSameButRoom old.journal new.journal
  pub cause : IsPrepareFault start new.press.ring old.journal fault

-- It was committed, and the keys that it ended were dropped, each once, by the signers.
pub record IsCommitted {D : Type 0} (disk_of : DiskGhosts D) (prepared : NextValue)
    (told : PublishedNumbers) (old new : StoredValue D) : Type 0 where
  pub at : new.press.at ≡ prepared.next
  pub site : new.press.site ≡ old.press.site
  pub session : new.press.rrdp.session ≡ old.press.rrdp.session
  pub last_export : new.press.last_export ≡ old.press.last_export
  pub kept : Keeps old.press.ring new.press.ring
  pub dropped : DropsEach prepared.ended old.press.ring new.press.ring
  pub ended : new.press.ended ≡ []
  pub files : (lists : List (List Command)) (editions : List Edition)
      → IsLeftBy lists editions old.press.at → HasFilesOf editions old.press
      → HasFilesOf (editions ++ edition_of prepared ∷ []) new.press
  pub records : (lists : List (List Command)) (editions : List Edition)
      → IsLeftBy lists editions old.press.at → HasRecordsOf editions old
      → HasRecordsOf (editions ++ edition_of prepared ∷ []) new
  pub known : IfSome new.journal.records (λ _. IsSome old.journal.records)
  pub limit : new.journal.limit ≡ old.journal.limit
  pub is_open : new.journal.shut ≡ None
  pub settled : new.journal.doubt ≡ None
  pub later : disk_of.fault_count old.journal.disk ≤ disk_of.fault_count new.journal.disk
  pub told_is : told ≡ published_of prepared.next

-- The press once an export ended so, as far as it is told.
abbrev pub exported_as : {D : Type 0} → LastExport → StoredValue D → StoredValue D
exported_as last stored =
    record stored { press = record stored.press { last_export = last } }
