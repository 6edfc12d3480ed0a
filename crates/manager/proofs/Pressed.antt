-- What a press makes of a locked press.
use Rattle.std.proofs.Common.{◌≡◌, ◌≢◌, ℕ, List, [], ◌∷◌, ◌++◌, length, sym, ◌∙◌, ap, subst, arith}
use Rattle.std.specs.Prelude.{None, Some, IfSome}
use Rattle.disk_api.specs.declared.disk.Disk.{Ghosts as DiskGhosts}
use Rattle.outlet_api.specs.declared.outlet.Outlet.{Ghosts as OutletGhosts}
use Rattle.gate_journal.specs.View.{View as JournalView}
use Rattle.authority_book.specs.declared.commands.Command.{Command}
use Rattle.commit_word.specs.Seats.{FollowerSeat}
use Rattle.notice_board.specs.Seats.{BoardSeat}
use Rattle.editions.specs.Edition.{Edition}
use Rattle.editions.specs.declared.gathered.Gathered.{Gathered}
use Rattle.editions.specs.declared.published_state.PublishedNumbers.{PublishedNumbers}
use Rattle.editions.specs.PublishedState.{PublishedStateValue, published_of}
use Rattle.editions.specs.Sheets.{sheet_of}
use Rattle.press_core.specs.Press.{PressValue}
use Rattle.press_core.specs.PrepareInput.{PrepareInput, start_of}
use Rattle.press_core.specs.Planned.{calls_for}
use Rattle.press_core.specs.Follows.{edition_of}
use Rattle.press_records.specs.Store.{Store}
use Rattle.press_core.specs.JournalRecords.{AreRecords, store_for}
use Rattle.press_core.specs.Stored.{StoredValue, StoredPreparedValue, store_of}
use Rattle.press_core.specs.StoredAnswers.{IsCommitFault}
use Rattle.press_core.specs.declared.stored_fault.PrepareFault.{PrepareFault}
use Rattle.manager.specs.Named.{Named}
use Rattle.manager.specs.Found.{AreFound}
use Rattle.manager.specs.Lists.{AreSeen}
use Rattle.manager.specs.Gathered.{AreSince}
use Rattle.manager.specs.Run.{shown_at}
use Rattle.manager.specs.Locked.{LockedValue, IsLockedOver, IsLocked, all_of}
use Rattle.manager.specs.Pressing.{IsReady, IsUnready, IsCommitted}
use Rattle.manager.specs.Answers.{IsBehind, IsNextShown, IsFailedBy}
use Rattle.manager.specs.Limits.{FitsWith}
use Rattle.manager.proofs.Holding.{RecordsLaw}
use Rattle.manager.proofs.Rooms.{fits_behind, fits_then}
use Rattle.manager.proofs.Over.{over}
use Rattle.manager.proofs.Answered.{shown_last}
use Rattle.manager.proofs.Kept.{VouchLaw, CoherentLaw, ShownLaw, lock, locked_asked, Readied, locked_pressed, locked_doubted}

-- the groups are what is behind the cut, whatever the followers have seen
abbrev pub Since : {D : Type 0} → Named → StoredValue D → List FollowerSeat → List Gathered → Type 0
Since named press seats groups = (lists : List (List Command)) → AreSeen (length named.signers) lists seats → AreSince 0 lists press.press.at.cut groups

pub since_inside : {D O : Type 0} (named : Named) (groups : List Gathered) (inside now : LockedValue D O) → inside ≡ now → Since named now.press now.seats groups → Since named inside.press inside.seats groups
since_inside named groups inside now same since = subst (λ (l : LockedValue _ _). Since named l.press l.seats groups) (sym same) since

module _ {D O : Type 0} (outlet_of : OutletGhosts O) (named : Named) (press : StoredValue D) (seats : List FollowerSeat) (board : BoardSeat) (outlet : O) (is : IsLocked outlet_of named (lock press seats board outlet))
    (clock : ℕ) (groups : List Gathered) where
  abbrev start : PrepareInput
  start = start_of press.press clock groups

  -- ---- none was prepared

  pub unready_locked : (new : StoredValue D) (still : BoardSeat) (fault : PrepareFault D) → still ≡ board → IsUnready start press new fault → IsLocked outlet_of named (lock new seats still outlet)
  unready_locked new still fault same unready = record {
    lists = is.lists;
    run = is.run;
    calls = is.calls;
    editions = is.editions;
    found = is.found;
    each = λ editions found. locked_asked outlet_of named editions is.lists is.run is.calls press new seats board still outlet unready.kept unready.same unready.journal
        (ap (λ (b : BoardSeat). b.list) same) (ap (λ (b : BoardSeat). b.shown) same) (is.each editions found);
  }

  -- ---- one was

  module _ (law : VouchLaw) (since : Since named press seats groups) (ready : StoredValue D) (readied : BoardSeat) (prepared : StoredPreparedValue)
      (isready : IsReady start press ready prepared) (on_board : readied ≡ record board { ready = Some (sheet_of prepared.edition.next) }) where
    ready_over : (editions : List Edition) → AreFound named editions → IsLockedOver outlet_of named editions is.lists is.run is.calls (lock ready seats readied outlet)
    ready_over editions found = locked_asked outlet_of named editions is.lists is.run is.calls press ready seats board readied outlet isready.kept isready.same isready.journal
        (ap (λ (b : BoardSeat). b.list) on_board) (ap (λ (b : BoardSeat). b.shown) on_board) (is.each editions found)

    abbrev readied_is : (editions : List Edition) → AreFound named editions → Readied outlet_of named editions start is.lists is.run is.calls ready seats readied outlet prepared.edition
    readied_is editions found = record {
      is = ready_over editions found;
      since = since is.lists (over outlet_of named (lock press seats board outlet) is).seen;
      edition = isready.edition;
      at = sym (ap (λ (p : PressValue). p.at) isready.same);
      site = sym (ap (λ (p : PressValue). p.site) isready.same);
      count = (over outlet_of named (lock press seats board outlet) is).made.kept.count;
    }

    -- its record fits behind the others
    has_room : (editions : List Edition) → AreFound named editions → FitsWith ready.journal prepared.entry
    has_room editions found =
        fits_behind ready.journal.records ready.journal.sizes ready.journal.limit prepared.entry isready.sizes isready.can.fits.fits (ready_over editions found).limit

    -- it was committed and shown
    pub pressed_locked : CoherentLaw → ShownLaw → RecordsLaw → (disk_of : DiskGhosts D) (told : PublishedNumbers) (new : StoredValue D) (shown : BoardSeat) → IsCommitted disk_of prepared.edition told ready new
        → shown ≡ record readied { shown = readied.shown ++ shown_at prepared.edition.next ∷ []; ready = None } → IsLocked outlet_of named (lock new seats shown outlet)
    pressed_locked still_coherent still_shown one_more disk_of told new shown committed shown_is = record {
      lists = is.lists;
      run = is.run ++ record { edition = edition_of prepared.edition; at = prepared.edition.next } ∷ [];
      calls = is.calls ++ calls_for start ready.press.ring prepared.edition isready.edition.is_prepared;
      editions = is.editions;
      found = is.found;
      each = λ editions found. locked_pressed outlet_of named editions law start is.lists is.run is.calls ready seats readied outlet prepared.edition (readied_is editions found) still_coherent still_shown new shown (record {
        at = committed.at;
        site = committed.site;
        session = committed.session;
        last_export = committed.last_export;
        kept = committed.kept;
        files = committed.files is.lists (all_of editions is.run) (ready_over editions found).made.left (ready_over editions found).files;
        limit = committed.limit;
        records = committed.records is.lists (all_of editions is.run) (ready_over editions found).made.left (ready_over editions found).records;
        room = fits_then one_more is.lists (all_of editions is.run) ready.press.at prepared.edition (store_of ready) prepared.entry ready.journal.records new.journal.records
            (ready_over editions found).made.left isready.can.recorded committed.known (ready_over editions found).records
            (subst (λ (s : Store). IfSome new.journal.records (AreRecords s (all_of editions is.run ++ edition_of prepared.edition ∷ []))) (λ i. store_for (committed.session i) (committed.site i))
            (committed.records is.lists (all_of editions is.run) (ready_over editions found).made.left (ready_over editions found).records))
            (has_room editions found);
        settled = committed.settled;
        list = ap (λ (b : BoardSeat). b.list) shown_is;
        shown_is = ap (λ (b : BoardSeat). b.shown) shown_is;
      });
    }

    -- its serial isn't 0
    pub pressed_some : (disk_of : DiskGhosts D) (told : PublishedNumbers) (new : StoredValue D) → IsCommitted disk_of prepared.edition told ready new → new.press.at.serial ≢ 0
    pressed_some disk_of told new committed none =
        let at : new.press.at.serial ≡ prepared.edition.next.serial = ap (λ (s : PublishedStateValue). s.serial) committed.at in
        omega (arith, none, at, isready.edition.is_prepared.next.serial)

    pub pressed_behind : (told : PublishedNumbers) → told ≡ published_of prepared.edition.next → IsBehind clock press.press.at told
    pressed_behind told is = record {
      serial = ap (λ (p : PublishedNumbers). p.serial) is ∙ isready.edition.is_prepared.next.serial;
      moment = ap (λ (p : PublishedNumbers). p.moment) is ∙ isready.edition.is_prepared.moment;
    }

    pub pressed_shown : (shown : BoardSeat) → shown ≡ record readied { shown = readied.shown ++ shown_at prepared.edition.next ∷ []; ready = None } → shown.shown ≡ board.shown ++ shown_at prepared.edition.next ∷ []
    pressed_shown shown shown_is =
        ap (λ (b : BoardSeat). b.shown) shown_is ∙ ap (λ (b : BoardSeat). b.shown ++ shown_at prepared.edition.next ∷ []) on_board

    pub pressed_next : (told : PublishedNumbers) → told ≡ published_of prepared.edition.next → (shown : BoardSeat)
        → shown ≡ record readied { shown = readied.shown ++ shown_at prepared.edition.next ∷ []; ready = None } → IsNextShown clock board.shown told shown.shown
    pressed_next told told_is shown shown_is =
        let last = shown_last outlet_of named press seats board outlet is in
        let behind = pressed_behind told told_is in
        record {
          before = last.0;
          standing = shown_at press.press.at;
          edition = shown_at prepared.edition.next;
          stood = last.1;
          last = pressed_shown shown shown_is;
          serial = behind.serial;
          moment = behind.moment;
          serial_is = sym (ap (λ (p : PublishedNumbers). p.serial) told_is);
          moment_is = sym (ap (λ (p : PublishedNumbers). p.moment) told_is);
        }

    -- the disk failed
    pub doubted_locked : (disk_of : DiskGhosts D) (rose : ℕ × ℕ) (new : StoredValue D) (still : BoardSeat) → IsCommitFault disk_of rose prepared ready new → new.journal.limit ≡ ready.journal.limit → still ≡ readied
        → IsLocked outlet_of named (lock new seats still outlet)
    doubted_locked disk_of rose new still fault limit same = record {
      lists = is.lists;
      run = is.run;
      calls = is.calls;
      editions = is.editions;
      found = is.found;
      each = λ editions found. subst (λ (b : BoardSeat). IsLockedOver outlet_of named editions is.lists is.run is.calls (lock new seats b outlet)) (sym same)
          (locked_doubted outlet_of named editions law start is.lists is.run is.calls ready seats readied outlet prepared.edition (readied_is editions found)
          prepared.entry rose new fault.press limit fault.records fault.shut fault.doubt isready.can.recorded (has_room editions found));
    }

    pub doubted_for : (disk_of : DiskGhosts D) (rose : ℕ × ℕ) (new : StoredValue D) → IsCommitFault disk_of rose prepared ready new → IsFailedBy disk_of rose press.journal new.journal
    doubted_for disk_of rose new fault = record {
      before = fault.before ∙ ap (λ (v : JournalView D). disk_of.fault_count v.disk) isready.journal;
      after = fault.after;
      shut = fault.shut;
    }

    pub doubted_shown : (still : BoardSeat) → still ≡ readied → still.shown ≡ board.shown
    doubted_shown still same = ap (λ (b : BoardSeat). b.shown) same ∙ ap (λ (b : BoardSeat). b.shown) on_board
