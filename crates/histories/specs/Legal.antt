-- Which histories are legal: each event is allowed after those before it.
use Rattle.std.specs.Prelude.{◌≡◌, ◌⊎◌, ⊤, ℕ, ◌^◌, ◌≤◌, false, List, [], ◌∷◌, ◌++◌}
use Rattle.std.specs.Prelude.{map, take, replicate, All}
use Rattle.std.specs.Prelude.{Option, Some, slice_get, IfSome}
use Rattle.authority_book.specs.declared.commands.Command.{Command}
use Rattle.authority_book.specs.Fold.{fold_of}
use Rattle.authority_book.specs.Verdict.{IsAccepted}
use Rattle.cmd_codec.specs.Spelling.{IsRecordable, spelling}
use Rattle.gate_journal.specs.Format.{held_by}
use Rattle.key_ids.specs.Uris.{Bases}
use Rattle.pub_set.specs.declared.steps.Change.{Change}
use Rattle.pub_set.specs.declared.steps.Change.TheVariants.{Put, Withdraw}
use Rattle.der.specs.Grammar.{AreBytes}
use Rattle.press_records.specs.Edition.{EditionValue, StandingValue, nothing_stands}
use Rattle.press_records.specs.Edition.{after_edition, editions}
use Rattle.press_records.specs.Store.{stores}
use Rattle.editions.specs.Edition.{Edition}
use Rattle.editions.specs.Step.{Premises, IsStep}
use Rattle.press_core.specs.JournalRecords.{press_limit, store_for}
use Rattle.press_core.specs.Records.{edition_value}
use Rattle.histories.specs.Devices.{Device, Store, lists_of, for_desk, are_vouched, new_store}
use Rattle.histories.specs.Events.{Event, History, signing, after_one}
use Rattle.histories.specs.Events.Event.{Commit, Publish, DeskFault, PressFault, Stop, Reopen}

-- ---- records

-- The most bytes of a desk's journal, and the bytes that it takes to hold these commands.
abbrev pub most_bytes : ℕ
most_bytes = 2 ^ 24

abbrev pub bytes_for : List Command → ℕ
bytes_for commands = held_by (map spelling commands)

-- The desk accepts the command after the others, and its journal has room for it behind them. It is
-- one that a program can hold: its names are names, and its sets are canonical. Whether its signer is
-- there isn't asked.
pub record IsNextCommand (desk : ℕ) (before : List Command) (command : Command) : Type 0 where
  pub held : IsRecordable command
  pub accepted : IsAccepted (fold_of desk before) command
  pub fits : bytes_for (before ++ command ∷ []) ≤ most_bytes

-- The first record of the press's journal, which says whose store it is. It is as long in whichever
-- session, which has 16 bytes.
abbrev pub store_record : Bases → List ℕ
store_record site = stores.spelling (store_for (replicate 16 0) site)

-- The records of editions, each over what the ones before it leave.
abbrev pub records_over : StandingValue → List EditionValue → List (List ℕ)
records_over before [] = []
records_over before (edition ∷ later) =
    (editions before).spelling edition ∷ records_over (after_edition before edition) later

-- The bytes that the press's journal takes to hold these editions.
abbrev pub press_bytes_for : Bases → List Edition → ℕ
press_bytes_for site published =
    held_by (store_record site ∷ records_over nothing_stands (map edition_value published))

-- What is put is bytes.
abbrev pub IsOfBytes : Change → Type 0
IsOfBytes (Put uri bytes replaces) = AreBytes bytes
IsOfBytes (Withdraw uri hash) = ⊤

-- The edition follows the others, at whichever clock, and the press's journal has room for its record
-- behind theirs. Its objects are bytes.
pub record FollowsTheOthers (ground : Premises) (before : List Edition) (edition : Edition)
    : Type 0 where
  pub held : All IsOfBytes edition.changes
  pub clock : ℕ
  pub step : IsStep ground clock before edition
  pub fits : press_bytes_for ground.site (before ++ edition ∷ []) ≤ press_limit

-- Each may come behind those before it.
abbrev pub InTurn : {X : Type 0} → (List X → X → Type 0) → List X → Type 0
InTurn {X} May xs =
    (place : ℕ) (x : X) → slice_get xs place ≡ Some x → May (take place xs) x

-- Over what a store's editions are made: its desks' commands, the bases of its repository, and the
-- signatures that are vouched.
abbrev pub ground_of : Bases → Store → Premises
ground_of site store = record {
  lists = lists_of store.desks;
  site = site;
  vouched = are_vouched store.vouched;
}

-- ---- what is found

-- A list is found as it was, or with the record in doubt behind it.
abbrev pub IsFound : {X : Type 0} → List X → Option X → List X → Type 0
IsFound {X} list doubt found =
    (found ≡ list) ⊎ ((x : X) × (doubt ≡ Some x) × (found ≡ list ++ x ∷ []))

-- So is each list of the desks.
abbrev pub AreFound : List (Device Command) → List (List Command) → Type 0
AreFound [] [] = ⊤
AreFound [] (list ∷ lists) = ⊥
AreFound (device ∷ desks) [] = ⊥
AreFound (device ∷ desks) (list ∷ lists) =
    IsFound device.list device.doubt list × AreFound desks lists

-- ---- events

module _ (site : Bases) where
  -- The command may be written at the desk.
  pub record CanBeWritten (store : Store) (desk : ℕ) (command : Command) : Type 0 where
    pub running : store.stopped ≡ false
    pub device : Device Command
    pub there : slice_get store.desks desk ≡ Some device
    pub is_open : device.shut ≡ false
    pub next : IsNextCommand desk device.list command

  -- The edition may be written at the press.
  pub record MayBePublished (store : Store) (edition : Edition) : Type 0 where
    pub running : store.stopped ≡ false
    pub is_open : store.press.shut ≡ false
    pub next : FollowsTheOthers (ground_of site store) store.press.list edition

  -- What is in doubt after a stop may be written where it is in doubt.
  pub record MayStop (store : Store) (commands : List (Option Command)) (edition : Option Edition)
      : Type 0 where
    pub running : store.stopped ≡ false
    pub desks : (desk : ℕ) → IfSome (for_desk commands desk) (CanBeWritten store desk)
    pub press : IfSome edition (MayBePublished store)

  pub record MayReopen (store : Store) (lists : List (List Command)) (editions : List Edition)
      : Type 0 where
    pub desks : AreFound store.desks lists
    pub press : IsFound store.press.list store.press.doubt editions

  abbrev pub IsAllowed : Store → Event → Type 0
  IsAllowed store (Commit desk command) = CanBeWritten store desk command
  IsAllowed store (Publish edition) = MayBePublished store edition
  IsAllowed store (DeskFault desk command) = CanBeWritten store desk command
  IsAllowed store (PressFault edition) = MayBePublished store edition
  IsAllowed store (Stop commands edition) = MayStop store commands edition
  IsAllowed store (Reopen lists editions) = MayReopen store lists editions

  -- Each is allowed after those before it, and after the signatures that were made before it.
  abbrev pub AreAllowed : Store → History → Type 0
  AreAllowed store [] = ⊤
  AreAllowed store (happening ∷ rest) =
      IsAllowed (signing store happening.signed) happening.event
      × AreAllowed (after_one store happening) rest

  -- A history of a new store.
  abbrev pub IsLegal : History → Type 0
  IsLegal history = AreAllowed new_store history
