-- The press, opened over a file behind the desks of a store.
use Rattle.std.specs.Prelude.{◌≡◌, ◌<◌, ℕ, List, [], ◌∷◌, All, None, length}
use Rattle.authority_book.specs.declared.commands.Command.{Command}
use Rattle.disk_api.specs.declared.memory.MemoryDisk.{MemoryDisk}
use Rattle.gate_journal.specs.Format.{recovered}
use Rattle.desk_core.specs.View.{View}
use Rattle.editions.specs.Edition.{Edition}
use Rattle.editions.specs.Step.{Premises, AreSteps}
use Rattle.press_core.specs.JournalRecords.{AreRecords, press_limit}
use Rattle.press_core.specs.Stands.{StandsFor}
use Rattle.press_core.specs.Stored.{StoredValue, IsStoreOf, store_of}
use Rattle.histories.specs.Devices.{Device, lists_of}
use Rattle.test_histories.specs.Standing.{AreDesks}

-- The records are those of these editions. Where there is none a store was begun.
abbrev pub AreFoundIn : List (List ℕ) → List Edition → StoredValue MemoryDisk → Type 0
AreFoundIn [] editions stored = editions ≡ []
AreFoundIn (first ∷ rest) editions stored = AreRecords (store_of stored) editions (first ∷ rest)

-- The file has the records of these editions, and the press goes on behind them: where they are steps
-- over the commands of the desks, it stands for them.
pub record IsPressOpened (desks : List (View MemoryDisk)) (file : List ℕ) (editions : List Edition)
    (stored : StoredValue MemoryDisk) : Type 0 where
  pub found : AreFoundIn (recovered file) editions stored
  pub holds : IsStoreOf editions stored
  pub limit : stored.journal.limit ≡ press_limit
  pub is_open : stored.journal.shut ≡ None
  pub settled : stored.journal.doubt ≡ None
  pub stands : (premises : Premises) (devices : List (Device Command)) → AreDesks 0 desks devices
      → premises.lists ≡ lists_of devices → AreSteps premises editions
      → StandsFor premises editions stored.press.at
  pub live : All (λ row. row.signer < 2) stored.press.at.rows
  pub signers : length stored.press.ring ≡ 2
