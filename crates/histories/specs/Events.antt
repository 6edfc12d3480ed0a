-- What may happen to a store, and what it leaves there.
use Rattle.std.specs.Prelude.{ℕ, true, false, List, [], ◌∷◌, ◌++◌, map, Option}
use Rattle.authority_book.specs.declared.commands.Command.{Command}
use Rattle.editions.specs.Edition.{Edition}
use Rattle.histories.specs.Devices.{Signature, Store, opened, with_one, failed, stopped}
use Rattle.histories.specs.Devices.{changed_at, stopped_from}

-- A command is accepted at a desk. An edition is published. A device call fails while a command or
-- an edition is written. Everything stops, within any write: at each desk and at the press one
-- record or none is in doubt then. The store is opened again, and these lists are found.
pub data Event : Type 0 where
  Commit : ℕ → Command → Event
  Publish : Edition → Event
  DeskFault : ℕ → Command → Event
  PressFault : Edition → Event
  Stop : List (Option Command) → Option Edition → Event
  Reopen : List (List Command) → List Edition → Event

-- An event, and the signatures that were made before it.
pub record Happening : Type 0 where
  pub signed : List Signature
  pub event : Event

-- A history of a store, from its beginning.
abbrev pub History : Type 0
History = List Happening

abbrev pub after : Store → Event → Store
after store (Commit desk command) =
    record store { desks = changed_at desk (with_one command) store.desks }
after store (Publish edition) = record store { press = with_one edition store.press }
after store (DeskFault desk command) =
    record store { desks = changed_at desk (failed command) store.desks }
after store (PressFault edition) = record store { press = failed edition store.press }
after store (Stop commands edition) = record store {
  desks = stopped_from 0 commands store.desks;
  press = stopped edition store.press;
  stopped = true;
}
after store (Reopen lists editions) = record store {
  desks = map opened lists;
  press = opened editions;
  stopped = false;
}

-- What was vouched for stays so.
abbrev pub signing : Store → List Signature → Store
signing store signed = record store { vouched = store.vouched ++ signed }

abbrev pub after_one : Store → Happening → Store
after_one store happening = after (signing store happening.signed) happening.event

abbrev pub after_all : Store → History → Store
after_all store [] = store
after_all store (happening ∷ rest) = after_all (after_one store happening) rest
