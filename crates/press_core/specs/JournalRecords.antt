-- The records of a press's journal, and what its disk stands for.
use Rattle.std.specs.Prelude.{◌≡◌, ◌⊎◌, ℕ, ◌^◌, List, [], ◌∷◌, ◌++◌, map}
use Rattle.gate_journal.specs.View.{RecoversTo}
use Rattle.record_forms.specs.Form.{Spells}
use Rattle.key_ids.specs.Uris.{Bases}
use Rattle.editions.specs.Edition.{Edition}
use Rattle.editions.specs.PublishedState.{PublishedStateValue}
use Rattle.press_records.specs.Edition.{nothing_stands, editions}
use Rattle.press_records.specs.Records.{AreRecordsOf}
use Rattle.press_records.specs.Store.{Store, IsStoreRecord}
use Rattle.press_core.specs.Next.{NextValue}
use Rattle.press_core.specs.Follows.{edition_of}
use Rattle.press_core.specs.Records.{edition_value, standing_of}

-- How many bytes a press's journal has at most: 1 GiB.
abbrev pub press_limit : ℕ
press_limit = 2 ^ 30

-- ---- an edition

-- The record of the edition that is prepared, over what stands.
abbrev pub record_bytes : PublishedStateValue → NextValue → List ℕ
record_bytes at prepared = (editions (standing_of at)).spelling (edition_value (edition_of prepared))

-- It is one: it is read back, over what stands and over whatever is the same URI by URI and desk by
-- desk.
abbrev pub IsRecordOf : PublishedStateValue → NextValue → List ℕ → Type 0
IsRecordOf at prepared bytes =
    Spells (editions (standing_of at)) (edition_value (edition_of prepared)) bytes

-- ---- the records of a journal

-- Whose store it is: the session of its RRDP files (RFC 8182 section 3.3.1), and its bases.
abbrev pub store_for : List ℕ → Bases → Store
store_for session site = (session, (site.rsync, site.rrdp))

-- The first record is the store's, and behind it each is that of an edition, over what the ones
-- before it leave.
pub record AreRecords (store : Store) (editions : List Edition) (records : List (List ℕ))
    : Type 0 where
  pub first : List ℕ
  pub rest : List (List ℕ)
  pub is : records ≡ first ∷ rest
  pub named : IsStoreRecord store first
  pub each : AreRecordsOf nothing_stands (map edition_value editions) rest

-- ---- what a file stands for

-- Opening the file finds the records of these editions.
pub record Finds (store : Store) (editions : List Edition) (file : List ℕ) : Type 0 where
  pub records : List (List ℕ)
  pub whole : RecoversTo press_limit records file
  pub are : AreRecords store editions records

-- Of these editions, or of these and one more.
abbrev pub FindsOrWith : Store → List Edition → Edition → List ℕ → Type 0
FindsOrWith store editions edition file =
    Finds store editions file ⊎ Finds store (editions ++ edition ∷ []) file
