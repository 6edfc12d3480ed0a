-- What was opened and made ready: what its parts are called in contracts, and what is known of them.
use Rattle.std.specs.Prelude.{◌≡◌, ℕ, List, [], ◌∷◌, All, length, map, get_or}
use Rattle.atomic_table.specs.Seated.{TableId}
use Rattle.disk_api.specs.declared.disk.Disk.{Ghosts as DiskGhosts}
use Rattle.outlet_api.specs.declared.outlet.Outlet.{Ghosts as OutletGhosts}
use Rattle.authority_book.specs.declared.commands.Command.{Command}
use Rattle.authority_book.specs.Verdict.{most_authorities}
use Rattle.desk_core.specs.View.{View}
use Rattle.desk_core.specs.Counted.{CountedView}
use Rattle.notice_board.specs.Seats.{BoardSeat}
use Rattle.editions.specs.Edition.{Edition}
use Rattle.press_core.specs.Stands.{IsLeftBy}
use Rattle.press_core.specs.Files.{HasFilesOf}
use Rattle.press_core.specs.Exports.{ShowsEdition, ShowsLast}
use Rattle.press_core.specs.Stored.{StoredValue}
use Rattle.manager.specs.Named.{Named}
use Rattle.manager.specs.Lists.{no_word}
use Rattle.manager.specs.Opening.{IsOpened}
use Rattle.manager.specs.Pressing.{exported_as}
use Rattle.manager.specs.Resumed.{IsResumed}
use Rattle.manager.specs.Risen.{AreRisenDesks, IsRisenPress}
use Rattle.manager.specs.Run.{shown_at}
use Rattle.manager.specs.Starting.{AreOpenedDesks, first_seat}

-- ---- what a caller that puts it behind locks calls its parts

abbrev pub word_in : {D : Type 0} → CountedView D → TableId
word_in counted = counted.word

abbrev pub desk_in : {D : Type 0} → CountedView D → View D
desk_in counted = counted.desk

abbrev pub records_in : {D : Type 0} → CountedView D → List (List ℕ)
records_in counted = counted.desk.records

abbrev pub faults_in : {D : Type 0} → DiskGhosts D → CountedView D → ℕ
faults_in disk_of counted = disk_of.fault_count counted.desk.disk

-- The words of the desks, by their numbers.
abbrev pub words_of : {D : Type 0} → List (CountedView D) → ℕ → TableId
words_of opened number = get_or (map word_in opened) number no_word

-- And what was found.
abbrev pub named_of : {D O : Type 0} → DiskGhosts D → OutletGhosts O → List (CountedView D)
    → StoredValue D → BoardSeat → O → Named
named_of disk_of outlet_of opened stored board outlet = record {
  site = stored.press.site;
  session = stored.press.rrdp.session;
  records = map records_in opened;
  at = stored.press.at;
  kept = stored.press.rrdp;
  journal = stored.journal.records;
  signers = stored.press.ring;
  files = outlet_of.files outlet;
  list = board.list;
  faults = record {
    desks = map (faults_in disk_of) opened;
    press = disk_of.fault_count stored.journal.disk;
    outlet = outlet_of.fault_count outlet;
  };
}

-- ---- what is known of it

-- Whatever editions left what the press has: the outlet shows the last one, where it was exported in this
-- run and that ended well.
abbrev pub ShowsItsLast : {D O : Type 0} → OutletGhosts O → StoredValue D → O → Type 0
ShowsItsLast outlet_of stored outlet = (lists : List (List Command)) (editions : List Edition)
    → stored.press.at.serial ≡ length editions → IsLeftBy lists editions stored.press.at
    → HasFilesOf editions stored.press
    → ShowsLast (ShowsEdition stored.press.rrdp.session stored.press.site) editions
    stored.press.last_export (outlet_of.files outlet)

-- The desks have words that begin to count at the records which were found, and the press goes on behind
-- them, as it was opened but for exports; the board shows what stands.
pub record IsReady {D O : Type 0} (outlet_of : OutletGhosts O) (opened : List (CountedView D))
    (stored : StoredValue D) (board : BoardSeat) (outlet : O) : Type 0 where
  pub first : StoredValue D
  pub resumed : IsResumed (map desk_in opened) first
  pub press : stored ≡ exported_as stored.press.last_export first
  pub recovered : All (λ counted. counted.recovered ≡ length counted.desk.records) opened
  pub shown : board.shown ≡ shown_at stored.press.at ∷ []
  pub shows : ShowsItsLast outlet_of stored outlet

-- It can be put behind its locks, by those names.
pub record CanStart {D O : Type 0} (disk_of : DiskGhosts D) (outlet_of : OutletGhosts O)
    (opened : List (CountedView D)) (stored : StoredValue D) (board : BoardSeat) (outlet : O)
    : Type 0 where
  pub count : length opened ≡ most_authorities
  pub desks : AreOpenedDesks (words_of opened)
      (named_of disk_of outlet_of opened stored board outlet) 0 opened
  pub press : IsOpened outlet_of (named_of disk_of outlet_of opened stored board outlet) (record {
    press = stored;
    seats = map first_seat opened;
    board = board;
    outlet = outlet;
  })
  pub desk_faults : AreRisenDesks disk_of (named_of disk_of outlet_of opened stored board outlet)
      (map desk_in opened)
  pub press_faults : IsRisenPress disk_of outlet_of
      (named_of disk_of outlet_of opened stored board outlet) stored.journal outlet
