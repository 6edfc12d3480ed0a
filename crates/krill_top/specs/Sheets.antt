-- What the last edition says of the authorities.
use Rattle.std.specs.Prelude.{◌≡◌, ◌≢◌, ℕ, List, []}
use Rattle.notice_board.specs.declared.sheets.Sheet.{Sheet}
use Rattle.editions.specs.PublishedState.{PublishedStateValue, IsConsistentState}
use Rattle.editions.specs.Sheets.{sheet_of}
use Rattle.press_core.specs.Stands.{IsLeftBy}
use Rattle.krill_top.specs.InstanceState.{InstanceState, lists_of}
use Rattle.krill_top.specs.Reads.{IsShowReply, IsRoasReply}

-- The sheet of the last edition: by what stands after it, what its cut comes to is certified, and the
-- origins that are owed there are published. Before the first one it says nothing.
pub record IsSheetIn (state : InstanceState) (sheet : Sheet) : Type 0 where
  pub published_state : PublishedStateValue
  pub left : IsLeftBy (lists_of state.desk_states) state.editions published_state
  pub kept : state.editions ≢ [] → IsConsistentState published_state
  pub is : sheet ≡ sheet_of published_state

-- The texts of the reads that tell of the last edition.
abbrev pub IsShowText : InstanceState → List ℕ → List ℕ → Type 0
IsShowText state name text = (sheet : Sheet) × IsSheetIn state sheet
    × IsShowReply state.desk_states sheet name text

abbrev pub IsRoasText : InstanceState → List ℕ → List ℕ → Type 0
IsRoasText state name text = (sheet : Sheet) × IsSheetIn state sheet
    × IsRoasReply state.desk_states sheet name text
