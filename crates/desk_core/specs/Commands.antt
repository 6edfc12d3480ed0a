-- The commands that a desk has, and records that are no such commands.
use Rattle.std.specs.Prelude.{◌≡◌, ℕ, List, Some, map, take, slice_get}
use Rattle.std.specs.List.{All}
use Rattle.authority_book.specs.declared.commands.Command.{Command}
use Rattle.authority_book.specs.Verdict.{IsAccepted}
use Rattle.authority_book.specs.Fold.{fold_of, Taken}
use Rattle.cmd_codec.specs.Spelling.{spelling, IsRecordable}
use Rattle.desk_core.specs.View.{View}

-- These payloads record these commands of a desk, each accepted after those before it.
pub record Records (number : ℕ) (records : List (List ℕ)) (commands : List Command) : Type 0 where
  pub spelled : records ≡ map spelling commands
  pub recordable : All IsRecordable commands
  pub taken : Taken number commands

-- The desk has these commands: its journal records them, and its configuration is what they come to.
pub record HasCommands {D : Type 0} (desk : View D) (commands : List Command) : Type 0 where
  pub recorded : Records desk.number desk.records commands
  pub fold : desk.settings ≡ fold_of desk.number commands

-- The payload records no command that is accepted after these.
abbrev pub RecordsNoNext : ℕ → List Command → List ℕ → Type 0
RecordsNoNext number before payload =
    (command : Command) → IsRecordable command → payload ≡ spelling command → ¬ IsAccepted (fold_of number before) command

-- The payload at this place is the first that isn't the record of a command accepted after those
-- before it.
pub record IsFirstBad (number : ℕ) (records : List (List ℕ)) (at : ℕ) : Type 0 where
  pub before : List Command
  pub payload : List ℕ
  pub good : Records number (take at records) before
  pub there : slice_get records at ≡ Some payload
  pub bad : RecordsNoNext number before payload
