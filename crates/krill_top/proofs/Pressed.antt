-- What a press's calls make of it, one after another.
use Rattle.std.proofs.Common.{◌≡◌, ◌≤◌, ℕ, List, [], ◌∷◌, ◌++◌, sym, ◌∙◌, ap, subst}
use Rattle.authority_book.specs.declared.commands.Command.{Command}
use Rattle.desk_core.specs.View.{View}
use Rattle.signer_api.specs.State.{SignerState}
use Rattle.signer_ring.specs.Ring.{Keeps}
use Rattle.notice_board.specs.declared.sheets.Sheet.{Sheet}
use Rattle.editions.specs.Edition.{Edition}
use Rattle.editions.specs.declared.ended.EndedKey.{EndedKey}
use Rattle.editions.specs.declared.published_state.PublishedNumbers.{PublishedNumbers}
use Rattle.editions.specs.PublishedState.{published_of}
use Rattle.std.proofs.lemmas.Bool.{false≢true}
use Rattle.std.specs.Prelude.{Option, None, Some, IfSome, IsSome}
use Rattle.std.specs.Option.{option_map}
use Rattle.press_core.specs.Press.{PressValue, DropsEach}
use Rattle.press_core.specs.Signers.{HoldKeys}
use Rattle.press_core.specs.PrepareInput.{start_of}
use Rattle.press_core.specs.Next.{NextValue}
use Rattle.press_core.specs.Stands.{IsLeftBy}
use Rattle.press_core.specs.Files.{HasFilesOf}
use Rattle.press_core.specs.Follows.{edition_of, IsNextEdition}
use Rattle.host_calls.specs.Rise.{HasRisen}
use Rattle.disk_api.specs.declared.disk.Disk.{Ghosts as DiskGhosts}
use Rattle.gate_journal.specs.View.{View as JournalView}
use Rattle.press_core.specs.JournalRecords.{IsRecordOf}
use Rattle.press_core.specs.Stored.{StoredValue, StoredPreparedValue, HasRecordsOf}
use Rattle.press_core.specs.StoredAnswers.{IsCommitFault}
use Rattle.krill_top.specs.inner.Pressing.{IsReady, IsPressed, IsUncommitted}

-- the records are known where the bytes are, before and after more of these
pub known_then : (old new : Option (List ℕ)) (more : List ℕ → List ℕ) (records grown : Option (List (List ℕ))) → new ≡ option_map more old → IfSome records (λ (_ : List (List ℕ)). IsSome old)
    → IfSome new (λ (_ : List ℕ). IsSome grown) → IsSome records → IsSome grown
known_then old new more None grown is told known some = absurd (false≢true some)
known_then None new more (Some records) grown is told known some = absurd (false≢true told)
known_then (Some bytes) new more (Some records) grown is told known some = subst (λ (o : Option (List ℕ)). IfSome o (λ (_ : List ℕ). IsSome grown)) is known

-- it became the last one
pub record IsCommitted {D : Type 0} (disk_of : DiskGhosts D) (prepared : NextValue) (told : PublishedNumbers) (ready committed : StoredValue D) : Type 0 where
  pub at : committed.press.at ≡ prepared.next
  pub ended : committed.press.ended ≡ prepared.ended
  pub site : committed.press.site ≡ ready.press.site
  pub ring : committed.press.ring ≡ ready.press.ring
  pub files : (lists : List (List Command)) (editions : List Edition) → IsLeftBy lists editions ready.press.at → HasFilesOf editions ready.press
      → HasFilesOf (editions ++ edition_of prepared ∷ []) committed.press
  pub session : committed.press.rrdp.session ≡ ready.press.rrdp.session
  pub last_export : committed.press.last_export ≡ ready.press.last_export
  pub told_is : told ≡ published_of prepared.next
  pub records : (lists : List (List Command)) (editions : List Edition) → IsLeftBy lists editions ready.press.at → HasRecordsOf editions ready
      → HasRecordsOf (editions ++ edition_of prepared ∷ []) committed
  pub known : IsSome ready.journal.records → IsSome committed.journal.records
  pub known_before : IfSome committed.journal.records (λ _. IsSome ready.journal.records)
  pub is_open : committed.journal.shut ≡ None
  pub settled : committed.journal.doubt ≡ None
  pub limit : committed.journal.limit ≡ ready.journal.limit
  pub later : disk_of.fault_count ready.journal.disk ≤ disk_of.fault_count committed.journal.disk

-- and the keys that it ended were dropped
pub record AreRetired {D : Type 0} (committed new : StoredValue D) : Type 0 where
  pub dropped : DropsEach committed.press.ended committed.press.ring new.press.ring
  pub others : new.press ≡ record committed.press { ring = new.press.ring; ended = [] }
  pub kept : Keeps committed.press.ring new.press.ring
  pub journal : new.journal ≡ committed.journal

pub pressed_by : {D : Type 0} (disk_of : DiskGhosts D) (clock : ℕ) (desks : List (View D)) (prepared : StoredPreparedValue) (told : PublishedNumbers) (sheet : Sheet) (old ready committed new : StoredValue D)
    → IsReady clock desks old ready prepared sheet → IsCommitted disk_of prepared.edition told ready committed → AreRetired committed new
    → IsPressed disk_of clock desks old new told sheet
pressed_by {D} disk_of clock desks prepared told sheet old ready committed new is_ready is_committed are_retired = record {
  groups = is_ready.groups;
  made = ready.press.ring;
  prepared = prepared.edition;
  since = is_ready.since;
  edition = is_ready.edition;
  kept = is_ready.kept;
  held = is_ready.held;
  at = ap (λ (p : PressValue). p.at) are_retired.others ∙ is_committed.at;
  site = ap (λ (p : PressValue). p.site) are_retired.others ∙ is_committed.site ∙ ap (λ (p : PressValue). p.site) is_ready.same;
  session = ap (λ (p : PressValue). p.rrdp.session) are_retired.others ∙ is_committed.session ∙ ap (λ (p : PressValue). p.rrdp.session) is_ready.same;
  last_export = ap (λ (p : PressValue). p.last_export) are_retired.others ∙ is_committed.last_export ∙ ap (λ (p : PressValue). p.last_export) is_ready.same;
  files = λ lists editions left has.
      let filed : HasFilesOf (editions ++ edition_of prepared.edition ∷ []) committed.press = is_committed.files lists editions
      (subst (λ (p : PressValue). IsLeftBy lists editions p.at) (sym is_ready.same) left)
      (subst (λ (p : PressValue). HasFilesOf editions p) (sym is_ready.same) (record { kept = has.kept; set = has.set })) in
      subst (λ (p : PressValue). HasFilesOf (editions ++ edition_of prepared.edition ∷ []) p) (sym are_retired.others) (record { kept = filed.kept; set = filed.set });
  dropped = subst (λ (e : List EndedKey). DropsEach e ready.press.ring new.press.ring) is_committed.ended
      (subst (λ (s : List SignerState). DropsEach committed.press.ended s new.press.ring) is_committed.ring are_retired.dropped);
  still = subst (λ (s : List SignerState). Keeps s new.press.ring) is_committed.ring are_retired.kept;
  told_is = is_committed.told_is;
  sheet_is = is_ready.sheet_is;
  was_open = sym (ap (λ (j : JournalView D). j.shut) is_ready.journal) ∙ is_ready.can.fits.is_open;
  limit = ap (λ (j : JournalView D). j.limit) are_retired.journal ∙ is_committed.limit ∙ ap (λ (j : JournalView D). j.limit) is_ready.journal;
  records = λ lists editions left has.
      subst (λ (s : StoredValue D). HasRecordsOf (editions ++ edition_of prepared.edition ∷ []) s) (retired_as committed new are_retired)
      (is_committed.records lists editions
      (subst (λ (p : PressValue). IsLeftBy lists editions p.at) (sym is_ready.same) left)
      (subst (λ (s : StoredValue D). HasRecordsOf editions s) (ready_as clock desks prepared sheet old ready is_ready) has));
  known = λ some. subst (λ (j : JournalView D). IsSome j.records) (sym are_retired.journal)
      (is_committed.known (subst (λ (j : JournalView D). IsSome j.records) (sym is_ready.journal) some));
  known_before = subst (λ (j : JournalView D). IfSome j.records (λ (_ : List (List ℕ)). IsSome old.journal.records)) (sym are_retired.journal)
      (subst (λ (j : JournalView D). IfSome committed.journal.records (λ (_ : List (List ℕ)). IsSome j.records)) is_ready.journal is_committed.known_before);
  room = is_ready.room;
  is_open = ap (λ (j : JournalView D). j.shut) are_retired.journal ∙ is_committed.is_open;
  settled = ap (λ (j : JournalView D). j.doubt) are_retired.journal ∙ is_committed.settled;
  later = subst (λ (j : JournalView D). disk_of.fault_count old.journal.disk ≤ disk_of.fault_count j.disk) (sym are_retired.journal)
      (subst (λ (j : JournalView D). disk_of.fault_count j.disk ≤ disk_of.fault_count committed.journal.disk) is_ready.journal is_committed.later);
}
  where
    -- the records of an edition depend on the store and on the journal alone
    retired_as : (committed new : StoredValue D) → AreRetired committed new → record committed { press = record committed.press { ring = new.press.ring; ended = [] } } ≡ new
    retired_as committed new retired = λ i. record { press = sym retired.others i; journal = sym retired.journal i }

    ready_as : (clock : ℕ) (desks : List (View D)) (prepared : StoredPreparedValue) (sheet : Sheet) (old ready : StoredValue D) → IsReady clock desks old ready prepared sheet
        → record old { press = record old.press { ring = ready.press.ring }; journal = record old.journal { places = ready.journal.places; room = ready.journal.room } } ≡ ready
    ready_as clock desks prepared sheet old ready is = λ i. record { press = sym is.same i; journal = sym is.journal i }

-- the disk failed while its record was written
pub uncommitted_by : {D : Type 0} (disk_of : DiskGhosts D) (clock : ℕ) (desks : List (View D)) (prepared : StoredPreparedValue) (sheet : Sheet) (old ready new : StoredValue D) (rose : ℕ × ℕ)
    → IsReady clock desks old ready prepared sheet → IsCommitFault disk_of rose prepared ready new → disk_of.fault_count ready.journal.disk ≤ disk_of.fault_count new.journal.disk
    → new.journal.limit ≡ ready.journal.limit → IsUncommitted disk_of clock desks old new rose
uncommitted_by {D} disk_of clock desks prepared sheet old ready new rose is_ready fault later limit =
    let same : new.press ≡ ready.press = fault.press in
    record {
      groups = is_ready.groups;
      prepared = prepared.edition;
      since = is_ready.since;
      edition = subst (λ (p : PressValue). IsNextEdition (start_of old.press clock is_ready.groups) p.ring prepared.edition) (sym same) is_ready.edition;
      kept = subst (λ (p : PressValue). Keeps old.press.ring p.ring) (sym same) is_ready.kept;
      held = subst (λ (p : PressValue). HoldKeys old.press.ring p.ring) (sym same) is_ready.held;
      same = same ∙ is_ready.same ∙ ap (λ (p : PressValue). record old.press { ring = p.ring }) (sym same);
      was_open = sym (ap (λ (j : JournalView D). j.shut) is_ready.journal) ∙ is_ready.can.fits.is_open;
      limit = limit ∙ ap (λ (j : JournalView D). j.limit) is_ready.journal;
      shut = fault.shut;
      entry = prepared.entry;
      recorded = subst (λ (p : PressValue). IsRecordOf p.at prepared.edition prepared.entry) is_ready.same is_ready.can.recorded;
      doubt = fault.doubt;
      records = fault.records ∙ ap (λ (j : JournalView D). j.records) is_ready.journal;
      room = is_ready.room;
      risen = subst (λ (j : JournalView D). HasRisen (disk_of.fault_count j.disk) (disk_of.fault_count new.journal.disk)) is_ready.journal
          (subst (λ (n : ℕ). HasRisen n (disk_of.fault_count new.journal.disk)) fault.before (subst (λ (n : ℕ). HasRisen rose.0 n) fault.after fault.risen));
      later = subst (λ (j : JournalView D). disk_of.fault_count j.disk ≤ disk_of.fault_count new.journal.disk) is_ready.journal later;
    }
