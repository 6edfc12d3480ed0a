-- An edition is made ready, or it isn't; and it is committed.
use Rattle.std.proofs.Common.{◌≡◌, ℕ, ◌<◌, ◌≤◌, List, [], ◌∷◌, ◌++◌, sym, ◌∙◌, ap, subst, arith, inr}
use Rattle.std.specs.Prelude.{None, Some, IfSome, IsSome, Option}
use Rattle.disk_api.specs.declared.disk.Disk.{Ghosts as DiskGhosts}
use Rattle.gate_journal.specs.View.{View as JournalView}
use Rattle.authority_book.specs.declared.commands.Command.{Command}
use Rattle.signer_api.specs.State.{SignerState}
use Rattle.signer_ring.specs.Ring.{Keeps}
use Rattle.notice_board.specs.Seats.{BoardSeat}
use Rattle.notice_board.specs.declared.sheets.Sheet.{Sheet}
use Rattle.notice_board.specs.declared.shown.EditionNumbers.{EditionNumbers}
use Rattle.notice_board.specs.Lists.{shown_of}
use Rattle.editions.specs.Edition.{Edition}
use Rattle.editions.specs.PublishedState.{PublishedStateValue, published_of}
use Rattle.editions.specs.Sheets.{sheet_of}
use Rattle.editions.specs.declared.published_state.PublishedNumbers.{PublishedNumbers}
use Rattle.press_core.specs.Press.{PressValue, DropsEach}
use Rattle.editions.specs.declared.ended.EndedKey.{EndedKey}
use Rattle.press_core.specs.PrepareInput.{PrepareInput}
use Rattle.press_core.specs.Planned.{IsPrepared}
use Rattle.press_core.specs.Faults.{IsShort}
use Rattle.press_core.specs.Next.{NextValue}
use Rattle.press_core.specs.Follows.{edition_of}
use Rattle.press_core.specs.Stands.{IsLeftBy}
use Rattle.press_core.specs.Files.{HasFilesOf}
use Rattle.press_core.specs.Stored.{StoredValue, StoredPreparedValue, HasRecordsOf}
use Rattle.press_core.specs.declared.stored_fault.PrepareFault.TheVariants as prepare
use Rattle.manager.specs.Run.{shown_at}
use Rattle.manager.specs.Pressing.{IsReady, IsUnready, IsCommitted}

-- ---- made ready

-- its serial is above those that were shown
pub above_shown : (start : PrepareInput) (ring : List SignerState) (prepared : NextValue) (last : ℕ) (sheet : Sheet) → IsPrepared start ring prepared → last ≡ start.at.serial → sheet ≡ sheet_of prepared.next → last < sheet.serial
above_shown start ring prepared last sheet is was same =
    let serial : sheet.serial ≡ prepared.next.serial = ap (λ (s : Sheet). s.serial) same in
    omega (arith, was, serial, is.next.serial)

-- where all was made, memory may run out
pub short_of : (start : PrepareInput) (ring : List SignerState) (prepared : NextValue) → IsPrepared start ring prepared → IsShort start ring
short_of start ring prepared is = record {
  work = is.made.work;
  planned = is.made.planned;
  out = inr (is.made.made, is.made.is_made);
}

module _ {D : Type 0} (start : PrepareInput) (old new : StoredValue D) (prepared : StoredPreparedValue) (is : IsReady start old new prepared) where
  open_before : old.journal.shut ≡ None
  open_before = sym (ap (λ (v : JournalView D). v.shut) is.journal) ∙ is.can.fits.is_open

  pub unready_short : IsUnready start old new prepare.Memory
  unready_short = record {
    kept = is.kept;
    held = is.held;
    same = is.same;
    journal = is.journal;
    cause = (open_before, inr (short_of start new.press.ring prepared.edition is.edition.is_prepared));
  }

-- ---- shown

pub shown_so : (old new : BoardSeat) (sheet : Sheet) (numbers given : EditionNumbers) → numbers ≡ given → old.ready ≡ Some sheet
    → IfSome old.ready (λ (s : Sheet). new ≡ record old { shown = old.shown ++ shown_of s numbers ∷ []; ready = None })
    → new ≡ record old { shown = old.shown ++ shown_of sheet given ∷ []; ready = None }
shown_so old new sheet numbers given same ready shown =
    subst (λ (n : EditionNumbers). new ≡ record old { shown = old.shown ++ shown_of sheet n ∷ []; ready = None }) same
    (subst (λ (o : Option Sheet). IfSome o (λ (s : Sheet). new ≡ record old { shown = old.shown ++ shown_of s numbers ∷ []; ready = None })) ready shown)

-- ---- committed

-- what a commit tells
pub record IsCommit {D : Type 0} (disk_of : DiskGhosts D) (prepared : NextValue) (told : PublishedNumbers) (old mid : StoredValue D) : Type 0 where
  pub at : mid.press.at ≡ prepared.next
  pub site : mid.press.site ≡ old.press.site
  pub ring : mid.press.ring ≡ old.press.ring
  pub ended : mid.press.ended ≡ prepared.ended
  pub session : mid.press.rrdp.session ≡ old.press.rrdp.session
  pub last_export : mid.press.last_export ≡ old.press.last_export
  pub files : (lists : List (List Command)) (editions : List Edition) → IsLeftBy lists editions old.press.at → HasFilesOf editions old.press → HasFilesOf (editions ++ edition_of prepared ∷ []) mid.press
  pub records : (lists : List (List Command)) (editions : List Edition) → IsLeftBy lists editions old.press.at → HasRecordsOf editions old → HasRecordsOf (editions ++ edition_of prepared ∷ []) mid
  pub known : IfSome mid.journal.records (λ (all : List (List ℕ)). IsSome old.journal.records)
  pub is_open : (mid.journal.shut ≡ None) × (mid.journal.doubt ≡ None)
  pub limit : mid.journal.limit ≡ old.journal.limit
  pub later : disk_of.fault_count old.journal.disk ≤ disk_of.fault_count mid.journal.disk
  pub told_is : told ≡ published_of prepared.next

module _ {D : Type 0} (disk_of : DiskGhosts D) (prepared : NextValue) (told : PublishedNumbers) (old mid new : StoredValue D) (is : IsCommit disk_of prepared told old mid)
    (others : new.press ≡ record mid.press { ring = new.press.ring; ended = [] }) (kept : Keeps mid.press.ring new.press.ring) (dropped : DropsEach mid.press.ended mid.press.ring new.press.ring) (journal : new.journal ≡ mid.journal) where
  abbrev retired : StoredValue D
  retired = record { press = record mid.press { ring = new.press.ring; ended = [] }; journal = mid.journal }

  same : retired ≡ new
  same = λ i. record { press = sym others i; journal = sym journal i }

  files_then : (editions : List Edition) → HasFilesOf editions mid.press → HasFilesOf editions new.press
  files_then editions has = subst (HasFilesOf editions) (sym others) (record { kept = has.kept; set = has.set })

  -- and then the keys that it ended are dropped
  pub committed_of : IsCommitted disk_of prepared told old new
  committed_of = record {
    at = ap (λ (p : PressValue). p.at) others ∙ is.at;
    site = ap (λ (p : PressValue). p.site) others ∙ is.site;
    session = ap (λ (p : PressValue). p.rrdp.session) others ∙ is.session;
    last_export = ap (λ (p : PressValue). p.last_export) others ∙ is.last_export;
    kept = subst (λ (ring : List SignerState). Keeps ring new.press.ring) is.ring kept;
    dropped = subst (λ (ring : List SignerState). DropsEach prepared.ended ring new.press.ring) is.ring
        (subst (λ (ended : List EndedKey). DropsEach ended mid.press.ring new.press.ring) is.ended dropped);
    ended = ap (λ (p : PressValue). p.ended) others;
    files = λ lists editions left has. files_then (editions ++ edition_of prepared ∷ []) (is.files lists editions left has);
    records = λ lists editions left has. subst (HasRecordsOf (editions ++ edition_of prepared ∷ [])) same (is.records lists editions left has);
    known = subst (λ (v : JournalView D). IfSome v.records (λ (all : List (List ℕ)). IsSome old.journal.records)) (sym journal) is.known;
    limit = ap (λ (v : JournalView D). v.limit) journal ∙ is.limit;
    is_open = ap (λ (v : JournalView D). v.shut) journal ∙ is.is_open.0;
    settled = ap (λ (v : JournalView D). v.doubt) journal ∙ is.is_open.1;
    later = subst (λ (v : JournalView D). disk_of.fault_count old.journal.disk ≤ disk_of.fault_count v.disk) (sym journal) is.later;
    told_is = is.told_is;
  }

-- what is shown is what stands then
pub shown_then : (old new : BoardSeat) (at next : PublishedStateValue) → at ≡ next → new ≡ record old { shown = old.shown ++ shown_at at ∷ []; ready = None } → new ≡ record old { shown = old.shown ++ shown_at next ∷ []; ready = None }
shown_then old new at next same shown = subst (λ (s : PublishedStateValue). new ≡ record old { shown = old.shown ++ shown_at s ∷ []; ready = None }) same shown
