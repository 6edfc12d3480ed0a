-- What is found where a store is opened again after a history.
use Rattle.std.specs.Prelude.{◌≡◌, ◌⊎◌, ℕ, ◌+◌, ◌≤◌, List, [], ◌∷◌, ◌++◌, length, get_or, slice_get}
use Rattle.std.specs.Prelude.{Bool, true, false, Option, None, Some}
use Rattle.authority_book.specs.declared.commands.Command.{Command}
use Rattle.authority_book.specs.Verdict.{most_authorities}
use Rattle.editions.specs.Edition.{Edition, state_after, cut_at}
use Rattle.histories.specs.Devices.{Device, Store, new_store, doubt_at}
use Rattle.histories.specs.Events.{Event, History, after_all}
use Rattle.histories.specs.Events.Event.{Reopen}
use Rattle.histories.specs.Legal.{IsFound}
use Rattle.histories.specs.Acknowledged.{commands_of, editions_of}

-- The store behind a history.
abbrev pub store_after : History → Store
store_after history = after_all new_store history

-- The serial of the last edition, or 0.
abbrev pub latest : List Edition → ℕ
latest editions = (state_after editions).serial

-- The edition takes in no command but those that were acknowledged.
abbrev pub TakesIn : History → Edition → Type 0
TakesIn history edition =
    (desk : ℕ) → cut_at edition.cut desk ≤ length (commands_of history desk)

-- For each desk the commands that were acknowledged, with or without the one in doubt behind them,
-- and nothing else; and so for the editions. The serial is the latest acknowledged one or the next,
-- and none of the editions takes in a command that was in doubt.
pub record AreFoundAfter (history : History) (lists : List (List Command))
    (editions : List Edition) : Type 0 where
  pub desks : length lists ≡ most_authorities
  pub commands : (desk : ℕ) → IsFound (commands_of history desk)
      (doubt_at (store_after history).desks desk) (get_or lists desk [])
  pub press : IsFound (editions_of history) (store_after history).press.doubt editions
  pub serial : (latest editions ≡ latest (editions_of history))
      ⊎ (latest editions ≡ latest (editions_of history) + 1)
  pub durable : (place : ℕ) (edition : Edition) → slice_get editions place ≡ Some edition
      → TakesIn history edition

-- ---- by a choice at each journal

-- A list, with the record in doubt behind it if that is to be found and there is one.
abbrev pub found_by : {X : Type 0} → Bool → List X → Option X → List X
found_by false list doubt = list
found_by true list None = list
found_by true list (Some x) = list ++ x ∷ []

-- So the list of each desk, from some desk on.
abbrev pub found_from : ℕ → (ℕ → Bool) → List (Device Command) → List (List Command)
found_from desk found [] = []
found_from desk found (device ∷ rest) =
    found_by (found desk) device.list device.doubt ∷ found_from (desk + 1) found rest

-- The reopening that finds the records in doubt of these desks, and the press's or not.
abbrev pub reopening_by : (ℕ → Bool) → Bool → Store → Event
reopening_by desks press store = Reopen (found_from 0 desks store.desks)
    (found_by press store.press.list store.press.doubt)
