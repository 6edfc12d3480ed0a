-- A follower of a desk has seen more commands.
use Rattle.std.proofs.Common.{◌≡◌, ℕ, zero, suc, ◌+◌, ◌<◌, ◌≤◌, List, [], ◌∷◌, ◌++◌, map, length, take, drop, get_or, refl, sym, ap, ◌∙◌, subst, arith, append-nil}
use Rattle.std.specs.Prelude.{slice_set}
use Rattle.std.proofs.Math.Seq.{take-append_seam}
use Rattle.std.proofs.lemmas.List.{length-map, take-map, take-append-drop}
use Rattle.std.proofs.lemmas.List.Elements.{All-take}
use mathlib.Core.List.{IsPrefix}
use Rattle.outlet_api.specs.declared.outlet.Outlet.{Ghosts as OutletGhosts}
use Rattle.authority_book.specs.declared.commands.Command.{Command}
use Rattle.authority_book.specs.Settings.{Settings}
use Rattle.authority_book.specs.Fold.{after, empty_settings, AcceptedInTurn}
use Rattle.cmd_codec.specs.Spelling.{spelling, IsRecordable}
use Rattle.commit_word.specs.Seats.{FollowerSeat}
use Rattle.desk_core.specs.Commands.{Records}
use Rattle.signer_api.specs.State.{SignerState}
use Rattle.signer_ring.specs.Calls.{Call}
use Rattle.rp_rules.specs.Certificates.{Vouched}
use Rattle.pub_set.specs.Changes.{Contents}
use Rattle.pub_set.specs.Objects.{content_at}
use Rattle.notice_board.specs.Seats.{BoardSeat}
use Rattle.editions.specs.Edition.{Edition, cut_at}
use Rattle.editions.specs.Step.{Premises, BeginsWith, AreMore, IsMore}
use Rattle.editions.specs.Published.{IsPublished}
use Rattle.editions.specs.PublishedState.{PublishedStateValue}
use Rattle.press_core.specs.Stands.{IsLeftBy, StandsFor}
use Rattle.press_core.specs.Follows.{edition_of}
use Rattle.press_core.specs.Stored.{StoredValue}
use Rattle.manager.specs.Named.{Named}
use Rattle.manager.specs.Lists.{IsListOf, AreListsOf, AreSeen, seat_at}
use Rattle.manager.specs.Run.{Stood, AreAfter}
use Rattle.manager.specs.Locked.{premises_of, all_of, ArePublished, AreMade, IsInDoubt, IsLockedOver}
use Rattle.manager.proofs.Kept.{lock, if_some_so}

-- ---- laws

abbrev pub OneList : Type 0
OneList = (number : ℕ) (records : List (List ℕ)) (one other : List Command) → Records number records one → Records number records other → one ≡ other

abbrev pub MoreLeft : Type 0
MoreLeft = (less more : List (List Command)) (editions : List Edition) (published_state : PublishedStateValue) → AreMore less more → IsLeftBy less editions published_state → IsLeftBy more editions published_state

abbrev pub MoreStand : Type 0
MoreStand = (less more : Premises) (editions : List Edition) (published_state : PublishedStateValue) → IsMore less more → StandsFor less editions published_state → StandsFor more editions published_state

abbrev pub StayPublished : Type 0
StayPublished = (premises : Premises) (more : List (List Command)) (edition : Edition) (set : Contents) → AreMore premises.lists more
    → ((desk : ℕ) → cut_at edition.cut desk ≤ length (get_or premises.lists desk [])) → IsPublished premises edition set → IsPublished (record premises { lists = more }) edition set

-- ---- the commands of a desk

accepted_front : (settings : Settings) (n : ℕ) (list : List Command) → AcceptedInTurn settings list → AcceptedInTurn settings (take n list)
accepted_front settings zero list all = tt
accepted_front settings (suc n) [] all = all
accepted_front settings (suc n) (command ∷ list) all = (all.0, accepted_front (after settings command) n list all.1)

-- records that begin with others are those of commands that begin with theirs
begins : OneList → (number : ℕ) (old new : List Command) (was is : List (List ℕ)) → Records number was old → Records number is new → IsPrefix was is → BeginsWith old new
begins law number old new was is first second prefix =
    let n = length old in
    let long : n ≡ length (map spelling old) = sym (length-map old spelling) in
    let front : map spelling old ≡ map spelling (take n new) =
    sym (take-append_seam (map spelling old) prefix.0)
    ∙ (ap (λ (k : ℕ). take k (map spelling old ++ prefix.0)) (sym long)
    ∙ (ap (λ (l : List (List ℕ)). take n (l ++ prefix.0)) (sym first.spelled)
    ∙ (ap (take n) (prefix.1 ∙ second.spelled) ∙ take-map spelling n new))) in
    let same : old ≡ take n new = law number (map spelling old) old (take n new)
    (record { spelled = refl; recordable = first.recordable; taken = first.taken })
    (record { spelled = front; recordable = All-take IsRecordable n new second.recordable; taken = accepted_front (empty_settings number) n new second.taken }) in
    (drop n new, sym (take-append-drop n new) ∙ ap (λ (l : List Command). l ++ drop n new) (sym same))

-- ---- one list more

same_lists : (lists : List (List Command)) → AreMore lists lists
same_lists [] = tt
same_lists (list ∷ lists) = (([], sym (append-nil list)), same_lists lists)

more_set : (lists : List (List Command)) (place : ℕ) (list : List Command) → BeginsWith (get_or lists place []) list → AreMore lists (slice_set lists place list)
more_set [] place list begins' = tt
more_set (l ∷ lists) zero list begins' = (begins', same_lists lists)
more_set (l ∷ lists) (suc place) list begins' = (([], sym (append-nil l)), more_set lists place list begins')

abbrev seen_of : FollowerSeat → List (List ℕ)
seen_of seat = seat.seen

seen_set : (signers number : ℕ) (lists : List (List Command)) (seats : List FollowerSeat) (place at : ℕ) (seat : FollowerSeat) (list : List Command) → at ≡ number + place
    → IsListOf signers at list seat.seen → AreListsOf signers number lists (map seen_of seats) → AreListsOf signers number (slice_set lists place list) (map seen_of (slice_set seats place seat))
seen_set signers number [] [] place at seat list here is all = tt
seen_set signers number [] (s ∷ seats) place at seat list here is all = absurd all
seen_set signers number (l ∷ lists) [] place at seat list here is all = absurd all
seen_set signers number (l ∷ lists) (s ∷ seats) zero at seat list here is all =
    let same : at ≡ number = omega (arith, here) in
    (subst (λ (n : ℕ). IsListOf signers n list seat.seen) same is, all.1)
seen_set signers number (l ∷ lists) (s ∷ seats) (suc place) at seat list here is all =
    (all.0, seen_set signers (suc number) lists seats place at seat list (omega (arith, here)) is all.1)

-- the list of the desk at a place
pub list_there : (signers number : ℕ) (lists : List (List Command)) (seats : List FollowerSeat) (place at : ℕ) → at ≡ number + place → place < length seats
    → AreListsOf signers number lists (map seen_of seats) → Records at (seat_at seats place).seen (get_or lists place [])
list_there signers number [] [] place at here within all = absurd (omega (arith, within))
list_there signers number [] (s ∷ seats) place at here within all = absurd all
list_there signers number (l ∷ lists) [] place at here within all = absurd all
list_there signers number (l ∷ lists) (s ∷ seats) zero at here within all =
    let same : at ≡ number = omega (arith, here) in
    subst (λ (n : ℕ). Records n s.seen l) (sym same) all.0.are
list_there signers number (l ∷ lists) (s ∷ seats) (suc place) at here within all = list_there signers (suc number) lists seats place at (omega (arith, here)) (omega (arith, within)) all.1

-- ---- what was made

-- each edition takes in no more than there is
pub held_at : (lists : List (List Command)) (before : List Edition) (run : List Stood) (k : ℕ) (d : Stood) → k < length run → AreAfter lists before run → (desk : ℕ) → cut_at (get_or run k d).edition.cut desk ≤ length (get_or lists desk [])
held_at lists before [] k d within all desk = absurd (omega (arith, within))
held_at lists before (stood ∷ run) zero d within all desk = subst (λ (cut : List ℕ). cut_at cut desk ≤ length (get_or lists desk [])) all.0.cut (all.0.left.taken_in desk)
held_at lists before (stood ∷ run) (suc k) d within all desk = held_at lists (before ++ stood.edition ∷ []) run k d (omega (arith, within)) all.1 desk

module _ (more_left : MoreLeft) (more_stand : MoreStand) (stay : StayPublished) (named : Named) (editions : List Edition) (less more : List (List Command)) (are : AreMore less more) where
  after_set : (before : List Edition) (run : List Stood) → AreAfter less before run → AreAfter more before run
  after_set before [] all = tt
  after_set before (stood ∷ run) all = (
    record { left = more_left less more (before ++ stood.edition ∷ []) stood.at are all.0.left; cut = all.0.cut; kept = all.0.kept; ascending = all.0.ascending; readable = all.0.readable },
    after_set (before ++ stood.edition ∷ []) run all.1,
  )

  premises_more : (vouched : Vouched) → IsMore (premises_of named less vouched) (premises_of named more vouched)
  premises_more vouched = record { lists = are; site = refl; vouched = λ key digest signature is. is }

  published_set : (before : List Edition) (run : List Stood) (vouched : Vouched) → AreAfter less before run → ArePublished (premises_of named less vouched) run → ArePublished (premises_of named more vouched) run
  published_set before run vouched after' all k d within =
      stay (premises_of named less vouched) more (get_or run k d).edition (content_at (get_or run k d).at.set) are (held_at less before run k d within after') (all k d within)

  made_set : (run : List Stood) (calls : List Call) (ring : List SignerState) (at : PublishedStateValue) → AreMade named editions less run calls ring at → AreMade named editions more run calls ring at
  made_set run calls ring at is = record {
    left = more_left less more (all_of editions run) at are is.left;
    after = after_set editions run is.after;
    last = is.last;
    counted = is.counted;
    one_each = is.one_each;
    kept = is.kept;
    told = is.told;
    sound = λ vouched all found.
        let was = is.sound vouched all found in
        record {
          stands = more_stand (premises_of named less vouched) (premises_of named more vouched) (all_of editions run) at (premises_more vouched) was.stands;
          published = published_set editions run vouched is.after was.published;
        };
    live_signers = is.live_signers;
  }

  doubt_set : (run : List Stood) (calls : List Call) (ring : List SignerState) (at : PublishedStateValue) (entry : List ℕ) → IsInDoubt named editions less run calls ring at entry → IsInDoubt named editions more run calls ring at entry
  doubt_set run calls ring at entry is = record {
    prepared = is.prepared;
    recorded = is.recorded;
    readable = is.readable;
    made = is.made;
    told = is.told;
    left = more_left less more (all_of editions run ++ edition_of is.prepared ∷ []) is.prepared.next are is.left;
    sound = λ vouched all mine found.
        let was = is.sound vouched all mine found in (
          more_stand (premises_of named less vouched) (premises_of named more vouched) (all_of editions run ++ edition_of is.prepared ∷ []) is.prepared.next (premises_more vouched) was.0,
          stay (premises_of named less vouched) more (edition_of is.prepared) (content_at is.prepared.next.set) are is.left.taken_in was.1,
        );
  }

  over_more : {D O : Type 0} (outlet_of : OutletGhosts O) (run : List Stood) (calls : List Call) (press : StoredValue D) (was seats : List FollowerSeat) (board : BoardSeat) (outlet : O)
      → AreSeen (length named.signers) more seats → IsLockedOver outlet_of named editions less run calls (lock press was board outlet) → IsLockedOver outlet_of named editions more run calls (lock press seats board outlet)
  over_more outlet_of run calls press was seats board outlet seen is = record {
    seen = seen;
    site = is.site;
    session = is.session;
    made = made_set run calls press.press.ring press.press.at is.made;
    list = is.list;
    shown = is.shown;
    files = is.files;
    shows = is.shows;
    coherent = is.coherent;
    limit = is.limit;
    records = is.records;
    room = is.room;
    doubt_room = is.doubt_room;
    settled = is.settled;
    doubt = if_some_so press.journal.doubt (IsInDoubt named editions less run calls press.press.ring press.press.at) (IsInDoubt named editions more run calls press.press.ring press.press.at) is.doubt
        (λ entry doubted. doubt_set run calls press.press.ring press.press.at entry doubted);
  }

-- ---- the follower of a desk has seen its whole list

pub locked_more : {D O : Type 0} (law : OneList) (more_left : MoreLeft) (more_stand : MoreStand) (stay : StayPublished) (outlet_of : OutletGhosts O) (named : Named) (editions : List Edition)
    (lists : List (List Command)) (run : List Stood) (calls : List Call) (press : StoredValue D) (seats : List FollowerSeat) (board : BoardSeat) (outlet : O) (place : ℕ) (next : FollowerSeat) (list : List Command)
    → place < length seats → IsPrefix (seat_at seats place).seen next.seen → IsListOf (length named.signers) place list next.seen
    → IsLockedOver outlet_of named editions lists run calls (lock press seats board outlet) → IsLockedOver outlet_of named editions (slice_set lists place list) run calls (lock press (slice_set seats place next) board outlet)
locked_more law more_left more_stand stay outlet_of named editions lists run calls press seats board outlet place next list within grows listed is =
    let old = list_there (length named.signers) 0 lists seats place place (omega arith) within is.seen in
    let begun = begins law place (get_or lists place []) list (seat_at seats place).seen next.seen old listed.are grows in
    over_more more_left more_stand stay named editions lists (slice_set lists place list) (more_set lists place list begun) outlet_of run calls press seats (slice_set seats place next) board outlet
    (seen_set (length named.signers) 0 lists seats place place next list (omega arith) listed is.seen) is
