-- What replies rest on: each desk's accepted commands, and what they come to.
use Rattle.std.specs.Prelude.{◌≡◌, ℕ, List, [], Option, None, Some, slice_get, slice_set}
use Rattle.authority_book.specs.declared.commands.Command.{Command}
use Rattle.authority_book.specs.declared.rows.NameRow.{NameRow}
use Rattle.authority_book.specs.Settings.{Settings}
use Rattle.authority_book.specs.Listed.{place_of}
use Rattle.authority_book.specs.Fold.{fold_of}

-- How many desks there are.
abbrev pub most_desks : ℕ
most_desks = 64

-- How many sessions a run serves at most.
abbrev pub most_sessions : ℕ
most_sessions = 8

-- The number of the press's disk, which comes behind those of the desks.
abbrev pub press_device : ℕ
press_device = 64

-- The anchor's desk.
abbrev pub anchor_desk : ℕ
anchor_desk = 0

-- A desk as its sessions know it: the commands accepted so far, and where a fault of its disk shut the
-- journal the command whose record may stand there, or not.
pub record DeskState : Type 0 where
  pub commands : List Command
  pub doubt : Option Command

-- The desks by their numbers.
abbrev pub DeskStates : Type 0
DeskStates = List DeskState

abbrev pub commands_of : Option DeskState → List Command
commands_of None = []
commands_of (Some desk) = desk.commands

abbrev pub commands_at : DeskStates → ℕ → List Command
commands_at desk_states number = commands_of (slice_get desk_states number)

-- What a desk's commands come to.
abbrev pub settings_at : DeskStates → ℕ → Settings
settings_at desk_states number = fold_of number (commands_at desk_states number)

-- The names of the tree, which the anchor's desk has.
abbrev pub names_in : DeskStates → List NameRow
names_in desk_states = (settings_at desk_states anchor_desk).names

-- The desk of the authority of that name: the name's place among the names of the tree.
abbrev pub desk_named : DeskStates → List ℕ → Option ℕ
desk_named desk_states name = place_of (names_in desk_states) name

-- The desk of that number goes so, and every other stays as it is.
pub record ChangesOne (number : ℕ) (change : DeskState → DeskState → Type 0)
    (before after : DeskStates) : Type 0 where
  pub was : DeskState
  pub is : DeskState
  pub found : slice_get before number ≡ Some was
  pub put : after ≡ slice_set before number is
  pub changes : change was is
