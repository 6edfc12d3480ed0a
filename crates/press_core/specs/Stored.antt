-- A press over its journal.
use Rattle.std.specs.Prelude.{◌≡◌, ◌<◌, ℕ, ◌+◌, List, Some, IfSome, length}
use Rattle.gate_journal.specs.View as journal
use Rattle.gate_journal.specs.Answers.{CanAppend}
use Rattle.editions.specs.Edition.{Edition}
use Rattle.rrdp_state.specs.declared.next.NextDelta.{NextDelta}
use Rattle.press_records.specs.Store.{Store}
use Rattle.press_core.specs.Press.{PressValue}
use Rattle.press_core.specs.Next.{NextValue, IsNext}
use Rattle.press_core.specs.Files.{delta_of}
use Rattle.press_core.specs.JournalRecords.{AreRecords, IsRecordOf, store_for}
use Rattle.press_core.specs.Tables.{IsHashed}

pub record StoredValue (D : Type 0) : Type 0 where
  pub press : PressValue
  pub journal : journal.View D

abbrev pub store_of : {D : Type 0} → StoredValue D → Store
store_of stored = store_for stored.press.rrdp.session stored.press.site

-- The journal's records, where the disk tells them, are those of these editions.
abbrev pub HasRecordsOf : {D : Type 0} → List Edition → StoredValue D → Type 0
HasRecordsOf editions stored = IfSome stored.journal.records (AreRecords (store_of stored) editions)

-- The disk tells its records, and these are those of these editions.
pub record IsStoreOf {D : Type 0} (editions : List Edition) (stored : StoredValue D) : Type 0 where
  pub records : List (List ℕ)
  pub told : stored.journal.records ≡ Some records
  pub are : AreRecords (store_of stored) editions records

-- An edition that is prepared, with its delta and the record of it.
pub record StoredPreparedValue : Type 0 where
  pub edition : NextValue
  pub delta : NextDelta
  pub entry : List ℕ

-- It was prepared by this press since the last edition: it follows what stands, its delta is that
-- of the session, its record is read back over what stands, and there is room for that. The table
-- after it tells the hash of what stands at each URI.
pub record CanCommit {D : Type 0} (stored : StoredValue D) (prepared : StoredPreparedValue)
    : Type 0 where
  pub next : IsNext stored.press.site stored.press.at prepared.edition
  pub delta : prepared.delta ≡ delta_of stored.press.rrdp.session prepared.edition
  pub hashed : IsHashed prepared.edition.next.set prepared.edition.next.issued
  pub recorded : IsRecordOf stored.press.at prepared.edition prepared.entry
  pub place : 0 < stored.journal.places
  pub fits : CanAppend stored.journal (length prepared.entry + 9)
