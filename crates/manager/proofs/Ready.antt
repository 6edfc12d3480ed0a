-- What was made ready can be put behind its locks.
use Rattle.std.proofs.Common.{◌≡◌, ◌<◌, ◌+◌, ℕ, zero, suc, List, [], ◌∷◌, length, map, get_or, refl, sym, ap, ◌∙◌, subst, arith}
use Rattle.std.specs.Prelude.{⊤, All, Option, None, IfSome, OnOk, Result, Ok, Err}
use Rattle.std.proofs.lemmas.List.{length-map}
use Rattle.atomic_table.specs.Seated.{TableId}
use Rattle.disk_api.specs.declared.disk.Disk.{Ghosts as DiskGhosts}
use Rattle.outlet_api.specs.declared.outlet.Outlet.{Ghosts as OutletGhosts}
use Rattle.outlet_api.specs.declared.exports.ExportFault.{ExportFault}
use Rattle.authority_book.specs.declared.commands.Command.{Command}
use Rattle.authority_book.specs.declared.rows.NameRow.{NameRow}
use Rattle.authority_book.specs.Settings.{Settings}
use Rattle.authority_book.specs.Fold.{fold_of, Taken}
use Rattle.commit_word.specs.Seats.{FollowerSeat}
use Rattle.desk_core.specs.View.{View}
use Rattle.desk_core.specs.Counted.{CountedView}
use Rattle.gate_journal.specs.View.{View as JournalView}
use Rattle.key_roll.specs.declared.rows.KeyRow.{KeyRow}
use Rattle.pub_set.specs.declared.objects.Object.{Object}
use Rattle.pub_set.specs.Objects.{content_at}
use Rattle.rrdp_state.specs.Editions.{Edition as RrdpEdition}
use Rattle.rrdp_state.specs.Exported.{Repository}
use Rattle.rrdp_state.specs.Kept.{Kept}
use Rattle.rrdp_state.specs.State.{kept_of, StandsFor as StandsForFiles}
use Rattle.notice_board.specs.Seats.{BoardSeat}
use Rattle.editions.specs.Edition.{Edition}
use Rattle.press_records.specs.Store.{Store}
use Rattle.press_core.specs.Files.{HasFilesOf, rrdp_editions, repository_at}
use Rattle.press_core.specs.Stands.{IsLeftBy}
use Rattle.press_core.specs.JournalRecords.{AreRecords, store_for}
use Rattle.press_core.specs.Loading.{IsLeftAs}
use Rattle.press_core.specs.Resuming.{GoOnFrom}
use Rattle.press_core.specs.Stored.{StoredValue}
use Rattle.press_core.specs.Exports.{ended_by, ShowsEdition, ShowsLast}
use Rattle.press_core.specs.declared.last_export.LastExport.{LastExport}
use Rattle.press_core.specs.declared.last_export.LastExport.TheVariants.{Done}
use Rattle.manager.specs.Named.{Named}
use Rattle.manager.specs.Lists.{AreListsOf, no_word}
use Rattle.manager.specs.Found.{AreFound}
use Rattle.manager.specs.Locked.{LockedValue, premises_of}
use Rattle.manager.specs.Opening.{IsOpenedBehind}
use Rattle.manager.specs.Pressing.{exported_as}
use Rattle.manager.specs.Resumed.{IsDeskOf, AreDesksOf, IsResumed}
use Rattle.manager.specs.Run.{shown_at}
use Rattle.manager.specs.Starting.{AreOpenedDesks, AreCounted, first_seat}
use Rattle.manager.specs.Risen.{IsRise, IsRisenDesk, AreRisenDesks, IsRisenPress}
use Rattle.manager.specs.Ready.{word_in, desk_in, records_in, faults_in, words_of, named_of, ShowsItsLast, IsReady, CanStart}
use Rattle.manager.proofs.Anchored.{names_below}
use Rattle.manager.proofs.Counting.{desks_of}
use Rattle.manager.proofs.Exporting.{FilesLaw, IsExportOf, shows_newest}
use Rattle.manager.proofs.Kept.{lock}
use Rattle.manager.proofs.More.{OneList}
use Rattle.manager.proofs.Seating.{list_of}

-- ---- the desks

abbrev AllCounted : {D : Type 0} → List (CountedView D) → Type 0
AllCounted opened = All (λ counted. counted.recovered ≡ length counted.desk.records) opened

head_of : {X : Type 0} (P : X → Type 0) (x : X) (xs : List X) → All P (x ∷ xs) → P x
head_of P x xs all = all 0 x (omega arith)

tail_of : {X : Type 0} (P : X → Type 0) (x : X) (xs : List X) → All P (x ∷ xs) → All P xs
tail_of P x xs all = λ k d within. all (suc k) d (omega (arith, within))

-- the desk of that number has these commands, and each name that they list has its signer among so many
pub record IsSigned {D : Type 0} (signers number : ℕ) (list : List Command) (desk : View D) : Type 0 where
  pub is : IsDeskOf number list desk
  pub signed : All (λ (name : NameRow). name.signer < signers) desk.settings.names

abbrev AreSigned : {D : Type 0} → ℕ → ℕ → List (List Command) → List (View D) → Type 0
AreSigned signers number [] [] = ⊤
AreSigned signers number [] (desk ∷ opened) = ⊥
AreSigned signers number (list ∷ lists) [] = ⊥
AreSigned signers number (list ∷ lists) (desk ∷ opened) = IsSigned signers number list desk × AreSigned signers (suc number) lists opened

signed_from : {D : Type 0} (signers from : ℕ) (lists : List (List Command)) (opened : List (View D)) → AreDesksOf from lists opened
    → ((from ≡ 0) → All (λ (name : NameRow). name.signer < signers) (fold_of 0 (get_or lists 0 [])).names) → AreSigned signers from lists opened
signed_from signers from [] [] are first = tt
signed_from signers from [] (desk ∷ opened) are first = absurd are
signed_from signers from (list ∷ lists) [] are first = absurd are
signed_from signers from (list ∷ lists) (desk ∷ opened) are first =
    let taken = subst (λ (n : ℕ). Taken n list) are.0.number_is are.0.has.recorded.taken in (
      record {
        is = are.0;
        signed = subst (λ (s : Settings). All (λ (name : NameRow). name.signer < signers) s.names) (sym (are.0.has.fold ∙ ap (λ (n : ℕ). fold_of n list) are.0.number_is))
            (names_below signers from list taken first);
      },
      signed_from signers (suc from) lists opened are.1 (λ same. absurd (omega (arith, same))),
    )

module _ {D : Type 0} (words : ℕ → TableId) (named : Named) where
  opened_from : (from : ℕ) (lists : List (List Command)) (opened : List (CountedView D)) → AreSigned (length named.signers) from lists (map desk_in opened) → AllCounted opened
      → ((k : ℕ) → k < length opened → words (from + k) ≡ get_or (map word_in opened) k no_word)
      → ((k : ℕ) → k < length opened → get_or named.records (from + k) [] ≡ get_or (map records_in opened) k [])
      → AreOpenedDesks words named from opened
  opened_from from [] [] are counted word found = tt
  opened_from from [] (one ∷ opened) are counted word found = absurd are
  opened_from from (list ∷ lists) [] are counted word found = absurd are
  opened_from from (list ∷ lists) (one ∷ opened) are counted word found =
      let here : from ≡ from + 0 = omega arith in (
        record {
          number_is = are.0.is.number_is;
          word_is = sym (ap words here ∙ word 0 (omega arith));
          found = sym (ap (λ (n : ℕ). get_or named.records n []) here ∙ found 0 (omega arith));
          recovered = head_of (λ (c : CountedView D). c.recovered ≡ length c.desk.records) one opened counted;
          listed = record { commands = list; has = are.0.is.has; signed = are.0.signed };
          is_open = are.0.is.is_open;
        },
        opened_from (suc from) lists opened are.1 (tail_of (λ (c : CountedView D). c.recovered ≡ length c.desk.records) one opened counted)
            (λ k within. let next : suc from + k ≡ from + suc k = omega arith in ap words next ∙ word (suc k) (omega (arith, within)))
            (λ k within. let next : suc from + k ≡ from + suc k = omega arith in ap (λ (n : ℕ). get_or named.records n []) next ∙ found (suc k) (omega (arith, within))),
      )

-- none of their disks failed since then
module _ {D : Type 0} (disk_of : DiskGhosts D) (named : Named) where
  risen_desk : (desk : View D) → desk.shut ≡ None → get_or named.faults.desks desk.number 0 ≡ disk_of.fault_count desk.disk → IsRisenDesk disk_of named desk
  risen_desk desk is_open count = record {
    later = omega (arith, count);
    shut = subst (λ (s : Option (ℕ × ℕ)). IfSome s (IsRise (get_or named.faults.desks desk.number 0) (disk_of.fault_count desk.disk))) (sym is_open) tt;
  }

  risen_from : (signers from : ℕ) (lists : List (List Command)) (opened : List (CountedView D)) → AreSigned signers from lists (map desk_in opened)
      → ((k : ℕ) → k < length opened → get_or named.faults.desks (from + k) 0 ≡ get_or (map (faults_in disk_of) opened) k 0)
      → AreRisenDesks disk_of named (map desk_in opened)
  risen_from signers from [] [] are count = tt
  risen_from signers from [] (one ∷ opened) are count = absurd are
  risen_from signers from (list ∷ lists) [] are count = absurd are
  risen_from signers from (list ∷ lists) (one ∷ opened) are count =
      let here : one.desk.number ≡ from + 0 = are.0.is.number_is ∙ omega arith in (
        risen_desk one.desk are.0.is.is_open (ap (λ (n : ℕ). get_or named.faults.desks n 0) here ∙ count 0 (omega arith)),
        risen_from signers (suc from) lists opened are.1
            (λ k within. let next : suc from + k ≡ from + suc k = omega arith in ap (λ (n : ℕ). get_or named.faults.desks n 0) next ∙ count (suc k) (omega (arith, within))),
      )

abbrev seen_in : FollowerSeat → List (List ℕ)
seen_in seat = seat.seen

seen_records : {D : Type 0} (opened : List (CountedView D)) → map seen_in (map first_seat opened) ≡ map records_in opened
seen_records [] = refl
seen_records (one ∷ opened) = ap (λ (l : List (List (List ℕ))). one.desk.records ∷ l) (seen_records opened)

lists_from : {D : Type 0} (signers from : ℕ) (lists : List (List Command)) (opened : List (CountedView D)) → AreSigned signers from lists (map desk_in opened)
    → AreListsOf signers from lists (map records_in opened)
lists_from signers from [] [] are = tt
lists_from signers from [] (one ∷ opened) are = absurd are
lists_from signers from (list ∷ lists) [] are = absurd are
lists_from signers from (list ∷ lists) (one ∷ opened) are = (
  list_of signers from one.desk (record { commands = list; has = are.0.is.has; signed = are.0.signed }) are.0.is.number_is,
  lists_from signers (suc from) lists opened are.1,
)

desks_long : {D : Type 0} (from : ℕ) (lists : List (List Command)) (opened : List (View D)) → AreDesksOf from lists opened → length opened ≡ length lists
desks_long from [] [] are = refl
desks_long from [] (desk ∷ opened) are = absurd are
desks_long from (list ∷ lists) [] are = absurd are
desks_long from (list ∷ lists) (desk ∷ opened) are = ap suc (desks_long (suc from) lists opened are.1)

-- the commands that records are of
one_lists : OneList → (signers from : ℕ) (lists others : List (List Command)) (records : List (List (List ℕ))) → AreListsOf signers from lists records → AreListsOf signers from others records → lists ≡ others
one_lists law signers from [] [] [] are again = refl
one_lists law signers from [] [] (entries ∷ records) are again = absurd are
one_lists law signers from [] (other ∷ others) [] are again = absurd again
one_lists law signers from [] (other ∷ others) (entries ∷ records) are again = absurd are
one_lists law signers from (list ∷ lists) others [] are again = absurd are
one_lists law signers from (list ∷ lists) [] (entries ∷ records) are again = absurd again
one_lists law signers from (list ∷ lists) (other ∷ others) (entries ∷ records) are again = λ i.
    law from entries list other are.0.are again.0.are i ∷ one_lists law signers (suc from) lists others records are.1 again.1 i

-- ---- it was opened

recovered_all : {D : Type 0} (views : List (View D)) (opened : List (CountedView D)) → AreCounted views opened → AllCounted opened
recovered_all views [] are k d within = absurd (omega (arith, within))
recovered_all [] (one ∷ opened) are k d within = absurd are
recovered_all (view ∷ views) (one ∷ opened) are zero d within = are.0.recovered ∙ ap (λ (v : View _). length v.records) (sym are.0.desk_is)
recovered_all (view ∷ views) (one ∷ opened) are (suc k) d within = recovered_all views opened are.1 k d (omega (arith, within))

pub ready_first : {D O : Type 0} (outlet_of : OutletGhosts O) (views : List (View D)) (opened : List (CountedView D)) (stored : StoredValue D) (board : BoardSeat) (outlet : O)
    → AreCounted views opened → board.shown ≡ shown_at stored.press.at ∷ [] → IsResumed views stored → IsReady outlet_of opened stored board outlet
ready_first outlet_of views opened stored board outlet are shown is = record {
  first = stored;
  resumed = subst (λ (l : List (View _)). IsResumed l stored) (sym (desks_of views opened are)) is;
  press = refl;
  recovered = recovered_all views opened are;
  shown = shown;
  shows = λ lists editions count left files.
      subst (λ (last : LastExport). ShowsLast (ShowsEdition stored.press.rrdp.session stored.press.site) editions last (outlet_of.files outlet)) (sym is.goes_on.last_export) tt;
}

-- ---- its last edition was exported

exported_shows : {D O T : Type 0} (files_law : FilesLaw) (outlet_of : OutletGhosts O) (stored : StoredValue D) (old new : O) (result : Result T (ExportFault O))
    → IsExportOf result stored.press (outlet_of.files old) (outlet_of.files new) → ShowsItsLast outlet_of stored old
    → ShowsItsLast outlet_of (exported_as (ended_by result stored.press.at.serial) stored) new
exported_shows files_law outlet_of stored old new (Ok done) export was = λ lists editions count left files.
    let session = stored.press.rrdp.session in
    let site = stored.press.site in
    let has : HasFilesOf editions stored.press = record { kept = files.kept; set = files.set } in
    shows_newest session site editions stored.press.at.serial (outlet_of.files new) count
    (export.shown lists editions left has (files_law session site editions stored.press.last_export (outlet_of.files old) (was lists editions count left has)))
exported_shows files_law outlet_of stored old new (Err fault) export was = λ lists editions count left files. tt

pub ready_exported : {D O T : Type 0} (files_law : FilesLaw) (outlet_of : OutletGhosts O) (opened : List (CountedView D)) (stored : StoredValue D) (board : BoardSeat) (old new : O) (result : Result T (ExportFault O))
    → IsExportOf result stored.press (outlet_of.files old) (outlet_of.files new) → IsReady outlet_of opened stored board old
    → IsReady outlet_of opened (exported_as (ended_by result stored.press.at.serial) stored) board new
ready_exported files_law outlet_of opened stored board old new result export is = record {
  first = is.first;
  resumed = is.resumed;
  press = ap (λ (s : StoredValue _). exported_as (ended_by result stored.press.at.serial) s) is.press;
  recovered = is.recovered;
  shown = is.shown;
  shows = exported_shows files_law outlet_of stored old new result export is.shows;
}

-- it was exported, where that ended well
pub ended_done : {T E : Type 0} (result : Result T E) (serial : ℕ) (last : LastExport) (There : Type 0) → last ≡ ended_by result serial → OnOk result (There → last ≡ Done serial)
ended_done (Ok done) serial last there is = λ some. is
ended_done (Err fault) serial last there is = tt

-- ---- the press

kept_session : (repository : Repository) (editions : List RrdpEdition) → (kept_of repository editions).session ≡ repository.session
kept_session repository [] = refl
kept_session repository (edition ∷ older) = refl

module _ {D O : Type 0} (law : OneList) (disk_of : DiskGhosts D) (outlet_of : OutletGhosts O) (opened : List (CountedView D)) (first : StoredValue D) (last : LastExport) (board : BoardSeat) (outlet : O)
    (is : IsResumed (map desk_in opened) first) where
  abbrev stored : StoredValue D
  stored = exported_as last first

  abbrev named : Named
  named = named_of disk_of outlet_of opened stored board outlet

  abbrev locked : LockedValue D O
  locked = lock stored (map first_seat opened) board outlet

  session_loaded : first.press.rrdp.session ≡ is.loaded.session
  session_loaded = ap (λ (k : Kept). k.session) (is.goes_on.files ∙ is.left.files.state)
      ∙ kept_session (repository_at is.loaded.session is.loaded.site) (rrdp_editions is.editions)

  same_repository : repository_at first.press.rrdp.session first.press.site ≡ repository_at is.loaded.session is.loaded.site
  same_repository = λ i. repository_at (session_loaded i) (is.goes_on.site i)

  same_store : store_for first.press.rrdp.session first.press.site ≡ store_for is.loaded.session is.loaded.site
  same_store = λ i. store_for (session_loaded i) (is.goes_on.site i)

  signed : AreSigned (length first.press.ring) 0 is.lists (map desk_in opened)
  signed = signed_from (length first.press.ring) 0 is.lists (map desk_in opened) is.are (λ same. is.names)

  here : AreListsOf (length first.press.ring) 0 is.lists (map records_in opened)
  here = lists_from (length first.press.ring) 0 is.lists opened signed

  -- editions that left what was loaded were found
  pub found_first : AreFound named is.editions
  found_first = record {
    count = is.goes_on.serial ∙ is.left.count;
    left = λ lists are. is.goes_on.left lists is.editions is.left
        (ap length (one_lists law (length first.press.ring) 0 lists is.lists (map records_in opened) are here) ∙ is.long)
        (subst (λ (l : List (List Command)). GoOnFrom l is.firsts) (one_lists law (length first.press.ring) 0 is.lists lists (map records_in opened) here are) is.of_desks);
    files = subst (λ (r : Repository). StandsForFiles r (rrdp_editions is.editions) first.press.rrdp) (sym same_repository)
        (subst (λ (k : Kept). StandsForFiles (repository_at is.loaded.session is.loaded.site) (rrdp_editions is.editions) k) (sym is.goes_on.files) is.left.files);
    set = is.goes_on.set ∙ is.left.objects;
    records = subst (λ (s : Store). IfSome first.journal.records (AreRecords s is.editions)) (sym same_store)
        (subst (λ (j : JournalView D). IfSome j.records (AreRecords (store_for is.loaded.session is.loaded.site) is.editions)) (sym is.goes_on.journal) is.records);
  }

  module _ (editions : List Edition) (found : AreFound named editions) where
    left : IsLeftBy is.lists editions first.press.at
    left = found.left is.lists here

    -- and what was found left what was loaded
    left_loaded : IsLeftAs editions is.loaded
    left_loaded = record {
      serial = sym is.goes_on.serial ∙ left.serial;
      count = sym is.goes_on.serial ∙ found.count;
      moment = sym is.goes_on.moment ∙ left.moment;
      cut = λ desk. sym (is.goes_on.cut desk) ∙ left.cut desk;
      rows = sym is.goes_on.rows ∙ left.rows;
      set = λ uri. ap (λ (objects : List Object). content_at objects uri) (sym is.goes_on.set) ∙ left.set uri;
      objects = sym is.goes_on.set ∙ found.set;
      files = subst (λ (r : Repository). StandsForFiles r (rrdp_editions editions) is.loaded.rrdp) same_repository
          (subst (λ (k : Kept). StandsForFiles (repository_at first.press.rrdp.session first.press.site) (rrdp_editions editions) k) is.goes_on.files found.files);
    }

  module _ (counted : AllCounted opened) (shown : board.shown ≡ shown_at first.press.at ∷ []) (shows : ShowsItsLast outlet_of (exported_as last first) outlet) where
    module _ (editions : List Edition) (found : AreFound named editions) where
      behind : IsOpenedBehind outlet_of named is.lists locked editions
      behind = record {
        stands = λ vouched steps. is.goes_on.stands (premises_of named is.lists vouched) editions (left_loaded editions found) is.long is.of_desks (steps is.lists here);
        shows = shows is.lists editions found.count (left editions found) (record { kept = found.files; set = found.set });
      }

    can_start_exported : CanStart disk_of outlet_of opened stored board outlet
    can_start_exported = record {
      count = sym (length-map opened desk_in) ∙ (desks_long 0 is.lists (map desk_in opened) is.are ∙ is.long);
      desks = opened_from (words_of opened) named 0 is.lists opened signed counted
          (λ k within. let same : 0 + k ≡ k = omega arith in ap (words_of opened) same) (λ k within. let same : 0 + k ≡ k = omega arith in ap (λ (n : ℕ). get_or (map records_in opened) n []) same);
      press = record {
        lists = is.lists;
        seen = subst (λ (records : List (List (List ℕ))). AreListsOf (length first.press.ring) 0 is.lists records) (sym (seen_records opened)) here;
        records = seen_records opened;
        site = refl;
        session = refl;
        ring = refl;
        at = refl;
        kept = refl;
        journal = refl;
        one_each = is.one_each;
        live_signers = subst (λ (rows : List KeyRow). All (λ (row : KeyRow). row.signer < length first.press.ring) rows) (sym is.goes_on.rows) is.live_signers;
        editions = is.editions;
        found = found_first;
        each = behind;
        list = refl;
        shown = shown;
        outlet = refl;
        limit = ap (λ (j : JournalView D). j.limit) is.goes_on.journal ∙ is.order.limit;
        settled = ap (λ (j : JournalView D). j.doubt) is.goes_on.journal ∙ is.order.settled;
      };
      desk_faults = risen_from disk_of named (length first.press.ring) 0 is.lists opened signed
          (λ k within. let same : 0 + k ≡ k = omega arith in ap (λ (n : ℕ). get_or (map (faults_in disk_of) opened) n 0) same);
      press_faults = record {
        disk = record {
          later = omega arith;
          shut = subst (λ (s : Option (ℕ × ℕ)). IfSome s (IsRise (disk_of.fault_count first.journal.disk) (disk_of.fault_count first.journal.disk)))
              (sym (ap (λ (j : JournalView D). j.shut) is.goes_on.journal ∙ is.order.is_open)) tt;
        };
        outlet_later = omega arith;
      };
    }

pub can_start : {D O : Type 0} → OneList → (disk_of : DiskGhosts D) (outlet_of : OutletGhosts O) (opened : List (CountedView D)) (stored : StoredValue D) (board : BoardSeat) (outlet : O)
    → IsReady outlet_of opened stored board outlet → CanStart disk_of outlet_of opened stored board outlet
can_start law disk_of outlet_of opened stored board outlet is =
    let last = stored.press.last_export in
    subst (λ (s : StoredValue _). CanStart disk_of outlet_of opened s board outlet) (sym is.press)
    (can_start_exported law disk_of outlet_of opened is.first last board outlet is.resumed is.recovered
    (is.shown ∙ ap (λ (s : StoredValue _). shown_at s.press.at ∷ []) is.press)
    (subst (λ (s : StoredValue _). ShowsItsLast outlet_of s outlet) is.press is.shows))
