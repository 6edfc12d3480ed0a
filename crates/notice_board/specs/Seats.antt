-- What contracts see of a board and of its viewers.
use Rattle.std.specs.Prelude.{List, Option}
use Rattle.notice_board.specs.declared.sheets.Sheet.{Sheet}
use Rattle.notice_board.specs.declared.shown.ListId.{ListId}
use Rattle.notice_board.specs.declared.shown.ShownEdition.{ShownEdition}

-- A board: which list is its own, the editions that were shown, and the sheet that is ready
pub record BoardSeat : Type 0 where
  pub list : ListId
  pub shown : List ShownEdition
  pub ready : Option Sheet

-- A viewer: which list it knows, and the editions that it has seen
pub record ViewerSeat : Type 0 where
  pub list : ListId
  pub seen : List ShownEdition

-- a viewer that has seen all that the board has shown
abbrev pub viewer_seat : BoardSeat → ViewerSeat
viewer_seat board = record { list = board.list; seen = board.shown }
