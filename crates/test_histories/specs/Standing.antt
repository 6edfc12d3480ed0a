-- The desks and the press as a history leaves them.
use Rattle.std.specs.Prelude.{◌≡◌, ◌<◌, ⊤, ℕ, suc, false, List, [], ◌∷◌, ◌++◌, map, length, All}
use Rattle.std.specs.Prelude.{Option, None, Some, IfSome}
use Rattle.std.specs.Option.{option_map}
use Rattle.disk_api.specs.declared.memory.MemoryDisk.{MemoryDisk}
use Rattle.authority_book.specs.declared.commands.Command.{Command}
use Rattle.cmd_codec.specs.Spelling.{spelling}
use Rattle.desk_core.specs.View.{View}
use Rattle.desk_core.specs.Commands.{Records, HasCommands}
use Rattle.editions.specs.Edition.{Edition}
use Rattle.editions.specs.PublishedState.{PublishedStateValue}
use Rattle.editions.specs.Step.{Premises}
use Rattle.press_records.specs.Store.{Store as Owner}
use Rattle.press_core.specs.JournalRecords.{AreRecords, press_limit}
use Rattle.press_core.specs.Stands.{StandsFor}
use Rattle.press_core.specs.Stored.{StoredValue, IsStoreOf, store_of as owner_of}
use Rattle.histories.specs.Devices.{Device, Signature, Store, opened}
use Rattle.histories.specs.Events.{History}
use Rattle.histories.specs.Legal.{IsLegal, IsFound, ground_of}
use Rattle.histories.specs.Found.{store_after}
use Rattle.test_histories.specs.declared.done.Done.{Done}
use Rattle.test_histories.specs.Told.{AreTold}

-- ---- the desks

-- The desk of that number has the journal of a history. The command in doubt would be its next one.
pub record IsDesk (number : ℕ) (desk : View MemoryDisk) (device : Device Command) : Type 0 where
  pub number_is : desk.number ≡ number
  pub commands : HasCommands desk device.list
  pub opens : desk.shut ≡ None → device.shut ≡ false
  pub settled : device.shut ≡ false → device.doubt ≡ None
  pub doubted : desk.doubt ≡ option_map spelling device.doubt
  pub next : IfSome device.doubt (λ command.
      Records number (map spelling (device.list ++ command ∷ [])) (device.list ++ command ∷ []))

-- So each, from this number on.
abbrev pub AreDesks : ℕ → List (View MemoryDisk) → List (Device Command) → Type 0
AreDesks number [] [] = ⊤
AreDesks number [] (device ∷ devices) = ⊥
AreDesks number (desk ∷ desks) [] = ⊥
AreDesks number (desk ∷ desks) (device ∷ devices) =
    IsDesk number desk device × AreDesks (suc number) desks devices

-- They have no command yet.
abbrev pub AreNew : ℕ → List (View MemoryDisk) → Type 0
AreNew number [] = ⊤
AreNew number (desk ∷ desks) = IsDesk number desk (opened []) × AreNew (suc number) desks

-- The desk was opened again over what a crash left of it, and these are its commands.
pub record IsOpenedAgain (number : ℕ) (old new : View MemoryDisk) (list : List Command)
    : Type 0 where
  pub found : IsFound old.records old.doubt new.records
  pub number_is : new.number ≡ number
  pub commands : HasCommands new list
  pub settled : new.doubt ≡ None

abbrev pub AreOpenedAgain : ℕ → List (View MemoryDisk) → List (View MemoryDisk)
    → List (List Command) → Type 0
AreOpenedAgain number [] [] [] = ⊤
AreOpenedAgain number [] [] (list ∷ lists) = ⊥
AreOpenedAgain number [] (new ∷ news) lists = ⊥
AreOpenedAgain number (old ∷ olds) [] lists = ⊥
AreOpenedAgain number (old ∷ olds) (new ∷ news) [] = ⊥
AreOpenedAgain number (old ∷ olds) (new ∷ news) (list ∷ lists) =
    IsOpenedAgain number old new list × AreOpenedAgain (suc number) olds news lists

-- ---- the press

-- The record in doubt is that of the edition in doubt, behind those of the others.
abbrev pub IsInDoubt : Owner → List Edition → List (List ℕ) → Option Edition
    → Option (List ℕ) → Type 0
IsInDoubt owner editions records None doubt = doubt ≡ None
IsInDoubt owner editions records (Some edition) doubt =
    (entry : List ℕ) × (doubt ≡ Some entry)
    × AreRecords owner (editions ++ edition ∷ []) (records ++ entry ∷ [])

-- A press may stand for these editions.
abbrev pub MayStandFor : Premises → List Edition → Type 0
MayStandFor premises editions =
    (state : PublishedStateValue) × StandsFor premises editions state

-- The press has the journal of a history, and stands for its editions. The edition in doubt would be
-- its next one.
pub record IsPress (stored : StoredValue MemoryDisk) (device : Device Edition)
    (premises : Premises) : Type 0 where
  pub holds : IsStoreOf device.list stored
  pub limit : stored.journal.limit ≡ press_limit
  pub opens : stored.journal.shut ≡ None → device.shut ≡ false
  pub settled : device.shut ≡ false → device.doubt ≡ None
  pub doubted : IsInDoubt (owner_of stored) device.list holds.records device.doubt
      stored.journal.doubt
  pub stands : StandsFor premises device.list stored.press.at
  pub next : IfSome device.doubt (λ edition. MayStandFor premises (device.list ++ edition ∷ []))
  pub live : All (λ row. row.signer < length stored.press.ring) stored.press.at.rows
  pub signers : length stored.press.ring ≡ 2

-- ---- the store

-- A store where nothing is stopped.
abbrev pub store_of : List (Device Command) → Device Edition → List Signature → Store
store_of devices press vouched = record {
  desks = devices;
  press = press;
  vouched = vouched;
  stopped = false;
}

-- There is a legal history of which this is told, and the desks and the press are as it leaves them.
pub record IsAt (desks : List (View MemoryDisk)) (press : StoredValue MemoryDisk)
    (done : List Done) : Type 0 where
  pub history : History
  pub told : AreTold done history
  pub legal : IsLegal press.press.site history
  pub devices : List (Device Command)
  pub device : Device Edition
  pub vouched : List Signature
  pub left : store_after history ≡ store_of devices device vouched
  pub stand : AreDesks 0 desks devices
  pub all : length devices ≡ 64
  pub is_press : IsPress press device
      (ground_of press.press.site (store_of devices device vouched))
