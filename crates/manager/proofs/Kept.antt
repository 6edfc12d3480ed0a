-- What a locked press keeps.
use Rattle.std.proofs.Common.{◌≡◌, ◌⊎◌, ℕ, ◌+◌, ◌<◌, ◌≤◌, List, [], ◌∷◌, ◌++◌, length, refl, sym, ap, ◌∙◌, subst, arith, inr}
use Rattle.std.specs.Prelude.{All, Option, None, Some, IfSome}
use Rattle.std.proofs.lemmas.List.{length-append}
use Rattle.std.proofs.lemmas.List.Elements.{All-append, All-push}
use Rattle.std.proofs.lemmas.Option.{none-some}
use Rattle.outlet_api.specs.declared.outlet.Outlet.{Ghosts as OutletGhosts}
use Rattle.outlet_api.specs.Calls.{Files}
use Rattle.gate_journal.specs.Format.{held_by}
use Rattle.gate_journal.specs.View.{IsSameButRoom}
use Rattle.authority_book.specs.declared.commands.Command.{Command}
use Rattle.commit_word.specs.Seats.{FollowerSeat}
use Rattle.key_ids.specs.Uris.{Bases}
use Rattle.key_roll.specs.declared.rows.KeyRow.{KeyRow}
use Rattle.signer_api.specs.State.{SignerState}
use Rattle.signer_ring.specs.Ring.{Keeps}
use Rattle.signer_ring.specs.Calls.{Call}
use Rattle.rp_rules.specs.Certificates.{Vouched}
use Rattle.pub_set.specs.declared.steps.Change.{Change}
use Rattle.pub_set.specs.Objects.{content_at}
use Rattle.rrdp_state.specs.Exported.{Repository}
use Rattle.notice_board.specs.Seats.{BoardSeat}
use Rattle.notice_board.specs.declared.shown.ShownEdition.{ShownEdition}
use Rattle.editions.specs.Edition.{Edition}
use Rattle.editions.specs.Gathering.{AreNextCommands}
use Rattle.editions.specs.PlannedAndMade.{CanBeRead}
use Rattle.editions.specs.Published.{IsPublished}
use Rattle.editions.specs.PublishedState.{PublishedStateValue}
use Rattle.editions.specs.VouchedCalls.{IsVouchedBy}
use Rattle.press_core.specs.Press.{PressValue}
use Rattle.press_core.specs.PrepareInput.{PrepareInput}
use Rattle.press_core.specs.Planned.{IsPrepared, calls_for}
use Rattle.press_core.specs.Next.{NextValue}
use Rattle.press_core.specs.Stands.{IsLeftBy, StandsFor}
use Rattle.press_core.specs.Follows.{AreBehind, edition_of, IsNextEdition}
use Rattle.press_core.specs.Files.{HasFilesOf}
use Rattle.press_core.specs.Signers.{HasAllVouched}
use Rattle.press_core.specs.Exports.{IsCoherent, ShowsEdition, ShowsLast}
use Rattle.press_core.specs.declared.last_export.LastExport.{LastExport}
use Rattle.press_core.specs.JournalRecords.{IsRecordOf, press_limit}
use Rattle.press_core.specs.Stored.{StoredValue, HasRecordsOf}
use Rattle.manager.specs.Limits.{FitsWhole, FitsWith}
use Rattle.manager.specs.Named.{Named}
use Rattle.manager.specs.Run.{Stood, shown_at}
use Rattle.manager.specs.Locked.{LockedValue, premises_of, AreFoundSteps, AreTold, all_of, AreSound, AreMade, IsInDoubt, repository_in, IsLockedOver}
use Rattle.manager.specs.Gathered.{AreSince}
use Rattle.manager.proofs.Since.{Within, they_go_on}
use Rattle.manager.proofs.Runs.{editions_more, last_more, after_more, shown_more}
use Rattle.manager.proofs.Vouching.{telling_vouched, keeps_then, has_before, told_still, front_of, rest_of}

-- ---- laws of the press

-- What was signed for an edition is vouched where all that the signers vouch for is.
abbrev pub VouchLaw : Type 0
VouchLaw = (start : PrepareInput) (ring : List SignerState) (prepared : NextValue) (is : IsPrepared start ring prepared) (vouched : Vouched)
    → HasAllVouched vouched ring → All (IsVouchedBy vouched) (calls_for start ring prepared is)

-- What an outlet shows it still shows when there are more editions.
abbrev pub CoherentLaw : Type 0
CoherentLaw = (repository : Repository) (editions : List Edition) (edition : Edition) (files : Files)
    → IsCoherent repository editions files → IsCoherent repository (editions ++ edition ∷ []) files

abbrev pub ShownLaw : Type 0
ShownLaw = (session : List ℕ) (site : Bases) (editions : List Edition) (edition : Edition) (last : LastExport) (files : Option Files)
    → ShowsLast (ShowsEdition session site) editions last files → ShowsLast (ShowsEdition session site) (editions ++ edition ∷ []) last files

pub if_some_so : {A : Type 0} (o : Option A) (P Q : A → Type 0) → IfSome o P → ((x : A) → P x → Q x) → IfSome o Q
if_some_so None P Q is so = tt
if_some_so (Some x) P Q is so = so x is

abbrev pub lock : {D O : Type 0} → StoredValue D → List FollowerSeat → BoardSeat → O → LockedValue D O
lock press seats board outlet = record { press = press; seats = seats; board = board; outlet = outlet }

-- ---- the signers were asked

module _ (named : Named) (editions : List Edition) where
  made_asked : (lists : List (List Command)) (run : List Stood) (calls : List Call) (old new : List SignerState) (at : PublishedStateValue) → Keeps old new
      → AreMade named editions lists run calls old at → AreMade named editions lists run calls new at
  made_asked lists run calls old new at kept is = record {
    left = is.left;
    after = is.after;
    last = is.last;
    counted = is.counted;
    one_each = is.one_each;
    kept = keeps_then named.signers old new is.kept kept;
    told = told_still named old new calls kept is.told;
    sound = is.sound;
    live_signers = is.live_signers;
  }

  doubt_asked : (lists : List (List Command)) (run : List Stood) (calls : List Call) (old new : List SignerState) (at : PublishedStateValue) (entry : List ℕ) → Keeps old new
      → IsInDoubt named editions lists run calls old at entry → IsInDoubt named editions lists run calls new at entry
  doubt_asked lists run calls old new at entry kept is = record {
    prepared = is.prepared;
    recorded = is.recorded;
    readable = is.readable;
    made = is.made;
    told = told_still named old new is.made kept is.told;
    left = is.left;
    sound = is.sound;
  }

module _ {D O : Type 0} (outlet_of : OutletGhosts O) (named : Named) (editions : List Edition) where
  -- the press with another ring, and its journal with another room; and the board with another sheet ready
  abbrev asked : StoredValue D → List SignerState → ℕ → ℕ → StoredValue D
  asked old ring places room = record {
    press = record old.press { ring = ring };
    journal = record old.journal { places = places; room = room };
  }

  asked_over : (lists : List (List Command)) (run : List Stood) (calls : List Call) (old : StoredValue D) (ring : List SignerState) (places room : ℕ) (seats : List FollowerSeat) (was is : BoardSeat) (outlet : O)
      → Keeps old.press.ring ring → is.list ≡ was.list → is.shown ≡ was.shown
      → IsLockedOver outlet_of named editions lists run calls (lock old seats was outlet) → IsLockedOver outlet_of named editions lists run calls (lock (asked old ring places room) seats is outlet)
  asked_over lists run calls old ring places room seats was board outlet kept same_list same_shown is = record {
    seen = is.seen;
    site = is.site;
    session = is.session;
    made = made_asked named editions lists run calls old.press.ring ring old.press.at kept is.made;
    list = same_list ∙ is.list;
    shown = same_shown ∙ is.shown;
    files = record { kept = is.files.kept; set = is.files.set };
    shows = is.shows;
    coherent = is.coherent;
    limit = is.limit;
    records = is.records;
    room = is.room;
    doubt_room = is.doubt_room;
    settled = is.settled;
    doubt = if_some_so old.journal.doubt (IsInDoubt named editions lists run calls old.press.ring old.press.at) (IsInDoubt named editions lists run calls ring old.press.at) is.doubt
        (λ entry doubted. doubt_asked named editions lists run calls old.press.ring ring old.press.at entry kept doubted);
  }

  pub locked_asked : (lists : List (List Command)) (run : List Stood) (calls : List Call) (old new : StoredValue D) (seats : List FollowerSeat) (was board : BoardSeat) (outlet : O)
      → Keeps old.press.ring new.press.ring → new.press ≡ record old.press { ring = new.press.ring } → IsSameButRoom old.journal new.journal → board.list ≡ was.list → board.shown ≡ was.shown
      → IsLockedOver outlet_of named editions lists run calls (lock old seats was outlet) → IsLockedOver outlet_of named editions lists run calls (lock new seats board outlet)
  locked_asked lists run calls old new seats was board outlet kept same room same_list same_shown is =
      subst (λ (s : StoredValue D). IsLockedOver outlet_of named editions lists run calls (lock s seats board outlet)) (λ i. record { press = sym same i; journal = sym room i })
      (asked_over lists run calls old new.press.ring new.journal.places new.journal.room seats was board outlet kept same_list same_shown is)

  -- ---- an edition was prepared over a press that is locked

  pub record Readied (start : PrepareInput) (lists : List (List Command)) (run : List Stood) (calls : List Call) (ready : StoredValue D) (seats : List FollowerSeat) (board : BoardSeat) (outlet : O) (prepared : NextValue) : Type 0 where
    pub is : IsLockedOver outlet_of named editions lists run calls (lock ready seats board outlet)
    pub since : AreSince 0 lists start.at.cut start.gathered
    pub edition : IsNextEdition start ready.press.ring prepared
    pub at : start.at ≡ ready.press.at
    pub site : start.site ≡ ready.press.site
    pub count : length start.ring ≡ length named.signers

  module _ (law : VouchLaw) (start : PrepareInput) (lists : List (List Command)) (run : List Stood) (calls : List Call) (ready : StoredValue D) (seats : List FollowerSeat) (board : BoardSeat) (outlet : O) (prepared : NextValue)
      (readied : Readied start lists run calls ready seats board outlet prepared) where
    abbrev is : IsLockedOver outlet_of named editions lists run calls (lock ready seats board outlet)
    is = readied.is

    abbrev edition : Edition
    edition = edition_of prepared

    abbrev stood : Stood
    stood = record { edition = edition; at = prepared.next }

    abbrev made : List Call
    made = calls_for start ready.press.ring prepared readied.edition.is_prepared

    abbrev before : List Edition
    before = all_of editions run

    left_before : IsLeftBy lists before start.at
    left_before = subst (λ (s : PublishedStateValue). IsLeftBy lists before s) (sym readied.at) is.made.left

    pub within : Within lists start.at.cut start.gathered
    within = record { all = readied.since; one_each = left_before.desks; held = left_before.taken_in }

    go_on : AreNextCommands lists start.at.cut start.gathered
    go_on = they_go_on lists start.at.cut start.gathered within

    left_then : IsLeftBy lists (before ++ edition ∷ []) prepared.next
    left_then = readied.edition.left lists before left_before go_on

    behind : (vouched : Vouched) → All (IsVouchedBy vouched) calls → All (IsVouchedBy vouched) made → AreFoundSteps named editions vouched → AreBehind start made (premises_of named lists vouched) before
    behind vouched all mine found = record {
      stands = subst (λ (s : PublishedStateValue). StandsFor (premises_of named lists vouched) before s) (sym readied.at) (is.made.sound vouched all found).stands;
      gathered = go_on;
      site = sym is.site ∙ sym readied.site;
      vouched = mine;
    }

    stands_then : (vouched : Vouched) → All (IsVouchedBy vouched) calls → All (IsVouchedBy vouched) made → AreFoundSteps named editions vouched
        → StandsFor (premises_of named lists vouched) (before ++ edition ∷ []) prepared.next
    stands_then vouched all mine found = (readied.edition.follows (premises_of named lists vouched) before (behind vouched all mine found)).stands

    published_then : (vouched : Vouched) → All (IsVouchedBy vouched) calls → All (IsVouchedBy vouched) made → AreFoundSteps named editions vouched
        → IsPublished (premises_of named lists vouched) edition (content_at prepared.next.set)
    published_then vouched all mine found = readied.edition.published (premises_of named lists vouched) before (behind vouched all mine found)

    told_then : AreTold named ready.press.ring made
    told_then tell vouched has =
        law start ready.press.ring prepared readied.edition.is_prepared vouched (telling_vouched vouched ready.press.ring (is.made.kept.told tell) has)

    readable_then : All CanBeRead prepared.changes
    readable_then =
        subst (λ (changes : List Change). All CanBeRead changes) (sym readied.edition.is_prepared.made.changes) readied.edition.is_prepared.made.readable

    one_more : all_of editions (run ++ stood ∷ []) ≡ before ++ edition ∷ []
    one_more = editions_more editions run stood

    sound_then : (vouched : Vouched) → All (IsVouchedBy vouched) (calls ++ made) → AreFoundSteps named editions vouched → AreSound named editions lists (run ++ stood ∷ []) prepared.next vouched
    sound_then vouched all found =
        let first = front_of (IsVouchedBy vouched) calls made all in
        let mine = rest_of (IsVouchedBy vouched) calls made all in
        record {
          stands = subst (λ (es : List Edition). StandsFor (premises_of named lists vouched) es prepared.next) (sym one_more) (stands_then vouched first mine found);
          published = All-push (λ (s : Stood). IsPublished (premises_of named lists vouched) s.edition (content_at s.at.set)) run stood
              (is.made.sound vouched first found).published (published_then vouched first mine found);
        }

    -- what is made, once the edition is the last one
    pub made_then : (ring : List SignerState) → Keeps ready.press.ring ring → AreMade named editions lists (run ++ stood ∷ []) (calls ++ made) ring prepared.next
    made_then ring kept = record {
      left = subst (λ (es : List Edition). IsLeftBy lists es prepared.next) (sym one_more) left_then;
      after = after_more lists editions run stood is.made.after (record { left = left_then; cut = refl; kept = readied.edition.is_prepared.next.kept; ascending = readied.edition.is_prepared.next.ascending; readable = readable_then });
      last = sym (last_more named.at run stood);
      counted =
          let long : length (all_of editions (run ++ stood ∷ [])) ≡ length before + 1 = ap length one_more ∙ length-append before (edition ∷ []) in
          let serial : start.at.serial ≡ length before = ap (λ (s : PublishedStateValue). s.serial) readied.at ∙ is.made.counted in
          omega (arith, long, serial, readied.edition.is_prepared.next.serial);
      one_each = readied.edition.is_prepared.next.kept.cut;
      kept = keeps_then named.signers ready.press.ring ring is.made.kept kept;
      told = λ tell vouched has. All-append (IsVouchedBy vouched) calls made
          (is.made.told tell vouched (has_before vouched ready.press.ring ring kept has))
          (told_then tell vouched (has_before vouched ready.press.ring ring kept has));
      sound = sound_then;
      live_signers = subst (λ (n : ℕ). All (λ (row : KeyRow). row.signer < n) prepared.next.rows) readied.count readied.edition.is_prepared.signers;
    }

    -- ---- it is the last one now, and shown

    pub record IsPressed (new : StoredValue D) (shown : BoardSeat) : Type 0 where
      pub at : new.press.at ≡ prepared.next
      pub site : new.press.site ≡ ready.press.site
      pub session : new.press.rrdp.session ≡ ready.press.rrdp.session
      pub last_export : new.press.last_export ≡ ready.press.last_export
      pub kept : Keeps ready.press.ring new.press.ring
      pub files : HasFilesOf (before ++ edition ∷ []) new.press
      pub limit : new.journal.limit ≡ ready.journal.limit
      pub records : HasRecordsOf (before ++ edition ∷ []) new
      pub room : FitsWhole new.journal
      pub settled : new.journal.doubt ≡ None
      pub list : shown.list ≡ board.list
      pub shown_is : shown.shown ≡ board.shown ++ shown_at prepared.next ∷ []

    pub locked_pressed : CoherentLaw → ShownLaw → (new : StoredValue D) (shown : BoardSeat) → IsPressed new shown
        → IsLockedOver outlet_of named editions lists (run ++ stood ∷ []) (calls ++ made) (lock new seats shown outlet)
    locked_pressed still_coherent still_shown new shown pressed = record {
      seen = is.seen;
      site = pressed.site ∙ is.site;
      session = pressed.session ∙ is.session;
      made = subst (λ (s : PublishedStateValue). AreMade named editions lists (run ++ stood ∷ []) (calls ++ made) new.press.ring s) (sym pressed.at) (made_then new.press.ring pressed.kept);
      list = pressed.list ∙ is.list;
      shown = pressed.shown_is ∙ (ap (λ (l : List ShownEdition). l ++ shown_at prepared.next ∷ []) is.shown ∙ sym (shown_more named.at run stood));
      files = subst (λ (es : List Edition). HasFilesOf es new.press) (sym one_more) pressed.files;
      shows = subst (λ (es : List Edition). ShowsLast (ShowsEdition named.session named.site) es new.press.last_export (outlet_of.files outlet)) (sym one_more)
          (subst (λ (l : LastExport). ShowsLast (ShowsEdition named.session named.site) (before ++ edition ∷ []) l (outlet_of.files outlet)) (sym pressed.last_export)
          (still_shown named.session named.site before edition ready.press.last_export (outlet_of.files outlet) is.shows));
      coherent = λ was. subst (λ (es : List Edition). IfSome (outlet_of.files outlet) (IsCoherent (repository_in named) es)) (sym one_more)
          (if_some_so (outlet_of.files outlet) (IsCoherent (repository_in named) before) (IsCoherent (repository_in named) (before ++ edition ∷ [])) (is.coherent was)
          (λ files coherent. still_coherent (repository_in named) before edition files coherent));
      limit = pressed.limit ∙ is.limit;
      records = subst (λ (es : List Edition). HasRecordsOf es new) (sym one_more) pressed.records;
      room = inr pressed.room;
      doubt_room = subst (λ (d : Option (List ℕ)). IfSome d (FitsWith new.journal)) (sym pressed.settled) tt;
      settled = λ none. pressed.settled;
      doubt = subst (λ (d : Option (List ℕ)). IfSome d (IsInDoubt named editions lists (run ++ stood ∷ []) (calls ++ made) new.press.ring new.press.at)) (sym pressed.settled) tt;
    }

    -- ---- the disk failed while its record was written

    pub locked_doubted : (entry : List ℕ) (rose : ℕ × ℕ) (new : StoredValue D) → new.press ≡ ready.press → new.journal.limit ≡ ready.journal.limit → new.journal.records ≡ ready.journal.records → new.journal.shut ≡ Some rose → new.journal.doubt ≡ Some entry
        → IsRecordOf ready.press.at prepared entry → FitsWith ready.journal entry
        → IsLockedOver outlet_of named editions lists run calls (lock new seats board outlet)
    locked_doubted entry rose new same limit records shut doubted recorded fits =
        subst (λ (p : PressValue). IsLockedOver outlet_of named editions lists run calls (lock (record { press = p; journal = new.journal }) seats board outlet)) (sym same) (record {
          seen = is.seen;
          site = is.site;
          session = is.session;
          made = is.made;
          list = is.list;
          shown = is.shown;
          files = is.files;
          shows = is.shows;
          coherent = is.coherent;
          limit = limit ∙ is.limit;
          records = subst (λ (r : Option (List (List ℕ))). HasRecordsOf before (record ready { journal = record ready.journal { records = r } })) (sym records) is.records;
          room = subst (λ (r : Option (List (List ℕ))). (run ≡ []) ⊎ IfSome r (λ (all : List (List ℕ)). held_by all ≤ press_limit)) (sym records) is.room;
          doubt_room = subst (λ (d : Option (List ℕ)). IfSome d (FitsWith new.journal)) (sym doubted)
              (subst (λ (r : Option (List (List ℕ))). IfSome r (λ (all : List (List ℕ)). held_by (all ++ entry ∷ []) ≤ press_limit)) (sym records) fits);
          settled = λ none. absurd (none-some rose (sym none ∙ shut));
          doubt = subst (λ (d : Option (List ℕ)). IfSome d (IsInDoubt named editions lists run calls ready.press.ring ready.press.at)) (sym doubted) (record {
            prepared = prepared;
            recorded = recorded;
            readable = readable_then;
            made = made;
            told = told_then;
            left = left_then;
            sound = λ vouched all mine found. (stands_then vouched all mine found, published_then vouched all mine found);
          });
        })
