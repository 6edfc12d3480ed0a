-- What writing an edition leaves of the press.
use Rattle.std.specs.Prelude.{◌≡◌, ◌≢◌, List, [], ◌∷◌, ◌++◌, None, Some, IsSome, length}
use Rattle.authority_book.specs.declared.commands.Command.{Command}
use Rattle.disk_api.specs.declared.memory.MemoryDisk.{MemoryDisk}
use Rattle.editions.specs.Edition.{Edition}
use Rattle.editions.specs.PublishedState.{published_of}
use Rattle.editions.specs.declared.published_state.PublishedNumbers.{PublishedNumbers}
use Rattle.press_core.specs.Follows.{edition_of}
use Rattle.press_core.specs.Stands.{IsLeftBy}
use Rattle.press_core.specs.Stored.{StoredValue, StoredPreparedValue, HasRecordsOf, store_of}
use Rattle.test_histories.specs.declared.done.Done.{Done}
use Rattle.test_histories.specs.declared.done.Done.TheVariants as told

-- The edition that was prepared is the last one, and its record stands behind the others.
pub record IsWritten (old : StoredValue MemoryDisk) (prepared : StoredPreparedValue)
    (published : PublishedNumbers) (new : StoredValue MemoryDisk) : Type 0 where
  pub at : new.press.at ≡ prepared.edition.next
  pub numbers : published ≡ published_of prepared.edition.next
  pub site : new.press.site ≡ old.press.site
  pub owner : store_of new ≡ store_of old
  pub signers : length new.press.ring ≡ length old.press.ring
  pub known : IsSome new.journal.records
  pub records : (lists : List (List Command)) (editions : List Edition)
      → IsLeftBy lists editions old.press.at → HasRecordsOf editions old
      → HasRecordsOf (editions ++ edition_of prepared.edition ∷ []) new
  pub limit : new.journal.limit ≡ old.journal.limit
  pub settled : new.journal.doubt ≡ None

-- A call of the disk failed: the press stands as before, its journal is shut, and the record is in
-- doubt.
pub record IsUnwritten (old : StoredValue MemoryDisk) (prepared : StoredPreparedValue)
    (new : StoredValue MemoryDisk) : Type 0 where
  pub press : new.press ≡ old.press
  pub records : new.journal.records ≡ old.journal.records
  pub limit : new.journal.limit ≡ old.journal.limit
  pub shut : new.journal.shut ≢ None
  pub doubt : new.journal.doubt ≡ Some prepared.entry

abbrev pub IsCommitted : StoredValue MemoryDisk → StoredPreparedValue → Done
    → StoredValue MemoryDisk → Type 0
IsCommitted old prepared (told.Published published) new = IsWritten old prepared published new
IsCommitted old prepared told.FailedPublishing new = IsUnwritten old prepared new
IsCommitted old prepared other new = ⊥
