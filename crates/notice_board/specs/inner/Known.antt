-- What is known of a list.
use Rattle.std.specs.Prelude.{◌≡◌, ℕ, List, [], ◌∷◌, map, fold, true}
use Rattle.logbook.specs.Pages.{Book, Named}
use Rattle.notice_board.specs.declared.lists.Entry.{Entry}
use Rattle.notice_board.specs.declared.lists.Known.{Known}
use Rattle.notice_board.specs.declared.shown.ListId.{ListId}
use Rattle.notice_board.specs.declared.shown.ShownEdition.{ShownEdition}
use Rattle.notice_board.specs.Seats.{ViewerSeat}

abbrev pub id_of : Book → ListId
id_of b = record { number = b.number; log_name = b.log_name; cells_name = b.cells_name }

abbrev pub head_of : Book → Named
head_of b = record { tracked = true; key = 0; book = b }

abbrev pub known_of : Book → List Entry → Known
known_of b log = record { list = id_of b; log = log }

abbrev pub entry : ShownEdition → ℕ → Entry
entry edition next = record { edition = edition; next = next }

abbrev pub no_entry : Entry
no_entry = entry (record {
  sheet = record { serial = 0; moment = 0; rows = [] };
  numbers = record { cut = []; objects = 0; origins = 0 };
}) 0

abbrev pub editions_of : List Entry → List ShownEdition
editions_of log = map (λ e. e.edition) log

abbrev pub viewer_of : Known → ViewerSeat
viewer_of known = record { list = known.list; seen = editions_of known.log }

-- what will lie on the board: the last that is pending, and where nothing is, what lies there
abbrev pub coming : Known → List Known → Known
coming shown pending = fold (λ _ next. next) shown pending
