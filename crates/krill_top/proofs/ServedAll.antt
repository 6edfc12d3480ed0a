-- A run over several sessions: whose its commands are, what was shown, and what it leaves.
use Rattle.std.proofs.Common.{◌≡◌, ◌<◌, ◌≤◌, ℕ, zero, suc, Bool, true, false, List, [], ◌∷◌, ◌++◌, map, length, get_or, refl, sym, ap, ◌∙◌, subst, arith, inl, inr}
use Rattle.std.specs.Prelude.{◌⊎◌, Option, None, Some, Result, IfSome, IsSome, All, nat_lt, slice_get, if◌then◌else◌}
use Rattle.std.proofs.lemmas.Bool.Decides.{nat_tests}
use Rattle.std.proofs.lemmas.List.{length-map}
use Rattle.std.proofs.lemmas.List.Elements.{All-nil, All-cons, All-append}
use Rattle.std.proofs.lemmas.Option.{slice_get-get_or}
use mathlib.Core.List.{IsPrefix}
use Rattle.disk_api.specs.declared.disk.Disk.{Ghosts as DiskGhosts}
use Rattle.outlet_api.specs.declared.outlet.Outlet.{Ghosts as OutletGhosts}
use Rattle.outlet_api.specs.declared.exports.ExportFault.{ExportFault}
use Rattle.line_loop.specs.declared.traits.Source.{Ghosts as SourceGhosts}
use Rattle.line_loop.specs.declared.traits.Sink.{Ghosts as SinkGhosts}
use Rattle.line_loop.specs.declared.traits.Clock.{Ghosts as ClockGhosts}
use Rattle.line_loop.specs.declared.session.SessionEnd.{SessionEnd}
use Rattle.authority_book.specs.declared.commands.Command.{Command}
use Rattle.cmd_codec.specs.Spelling.{spelling}
use Rattle.commit_word.specs.Entries.{StandsIn}
use Rattle.desk_core.specs.View.{View}
use Rattle.desk_core.specs.Counted.{CountedView}
use Rattle.signer_api.specs.State.{SignerState}
use Rattle.rp_rules.specs.Certificates.{Vouched}
use Rattle.pub_set.specs.Objects.{content_at}
use Rattle.pub_set.specs.Changes.{Contents}
use Rattle.notice_board.specs.Seats.{BoardSeat}
use Rattle.notice_board.specs.declared.shown.ShownEdition.{ShownEdition}
use Rattle.editions.specs.Edition.{Edition, set_after}
use Rattle.editions.specs.Step.{AreMore}
use Rattle.manager.specs.Ends.{AreEnds}
use Rattle.manager.specs.Passes.{PassValue, IsSplitOff}
use Rattle.manager.specs.Ready.{desk_in, records_in}
use Rattle.manager.specs.Run.{Stood, editions_of, shown_at, AreAfter}
use Rattle.manager.specs.Sharing.{AreShared, IsSharedDesk, pass_at, seat_of, made_with}
use Rattle.manager.specs.Starting.{IsFirstPass}
use Rattle.session_lines.specs.Own.{SessionMakes}
use Rattle.session_lines.specs.Replies.{SessionState}
use Rattle.session_lines.specs.Runs.{AllServed, AreServedWith, NoneServed}
use Rattle.session_lines.specs.Sessions.{Streams, Converses}
use Rattle.session_lines.specs.declared.running.SessionEnds.{SessionEnds}
use Rattle.session_lines.specs.declared.running.SessionOutcome.{SessionOutcome}
use Rattle.krill_top.specs.declared.faults.RunFault.TheVariants as run_faults
use Rattle.krill_top.specs.DeskStates.{DeskState, most_desks, commands_at, commands_of}
use Rattle.krill_top.specs.DesksInStates.{InAt}
use Rattle.krill_top.specs.InstanceState.{InstanceState, lists_of, store_in}
use Rattle.krill_top.specs.SharedRuns.{records_at, KnowsFound, IsSharedList, Shares, AreServedIn, AreAllServed, IsNoneServed, gravest_from}
use Rattle.krill_top.specs.inner.Instances.{InstanceValue, IsInState}
use Rattle.krill_top.specs.inner.Shared.{worst_of}
use Rattle.krill_top.specs.inner.Started.{IsResumedIn}
use Rattle.editions.specs.Edition.{cut_at}
use Rattle.editions.specs.Step.{Premises}
use Rattle.editions.specs.Published.{IsPublished}
use Rattle.manager.specs.Closing.{FindsAll}
use Rattle.manager.specs.Found.{AreFound}
use Rattle.editions.specs.VouchedCalls.{IsVouchedBy}
use Rattle.manager.specs.Locked.{AreFoundSteps, IsInDoubt, IsLockedOver, premises_of as premises_named}
use Rattle.krill_top.specs.InstanceState.{premises_of, AreVouchedIn}
use Rattle.krill_top.specs.PressDisk.{HoldsIn, IsPressServed}
use Rattle.krill_top.specs.Run.{AreKept}
use Rattle.press_core.specs.Follows.{edition_of}
use Rattle.krill_top.specs.Histories.{MayFind, and_doubt}
use Rattle.krill_top.specs.inner.Room.{HasRoom, HasRoomUnknown}
use Rattle.key_ids.specs.Uris.{Bases}
use Rattle.histories.specs.Events.{History}
use Rattle.histories.specs.Legal.{press_bytes_for}
use Rattle.press_core.specs.JournalRecords.{press_limit}
use Rattle.krill_top.specs.SoundEditions.{AreFoundSound, TakesNoMore}
use Rattle.krill_top.specs.inner.Opened.{AreOpened, AreClosed}
use Rattle.krill_top.specs.inner.Started.{IsPressFound}
use Rattle.krill_top.proofs.FoundCuts.{cuts_found}
use Rattle.krill_top.proofs.KeptDesks.{record_at, records_or, begins_at, kept_at}
use Rattle.krill_top.proofs.Lists.{as_many, list_at, lists_long, more_long}
use Rattle.krill_top.proofs.OutOfLocks.{ComesOut}
use Rattle.krill_top.proofs.PressFound.{some_so}
use Rattle.krill_top.proofs.Room.{found_bytes, found_fits, found_press, made_bytes, press_room}
use Rattle.krill_top.proofs.Served.{OpenedAt, closed_at}
use Rattle.krill_top.proofs.Vouching.{front_of}
use Rattle.krill_top.proofs.ManyServed as ended

abbrev pub StayPublished : Type 0
StayPublished = (premises : Premises) (more : List (List Command)) (edition : Edition) (set : Contents) → AreMore premises.lists more
    → ((desk : ℕ) → cut_at edition.cut desk ≤ length (get_or premises.lists desk [])) → IsPublished premises edition set → IsPublished (record premises { lists = more }) edition set

-- ---- the sessions

abbrev pub MakesLaw : {D S K : Type 0} → Type 0 → DiskGhosts D → SourceGhosts S → SinkGhosts K → Type 0
MakesLaw {D} {S} {K} O disk_of source_of sink_of = (signers : ℕ) (old new : Streams S K) (end : SessionEnd) (begun ended : SessionState)
    (is : Converses O disk_of signers source_of sink_of old new end begun ended) → SessionMakes end is.given is.written begun.pass.seats ended.pass.seats

module _ {D O S K C : Type 0} (disk_of : DiskGhosts D) (source_of : SourceGhosts S) (sink_of : SinkGhosts K) (clock_of : ClockGhosts C) (makes : MakesLaw O disk_of source_of sink_of) (signers : ℕ) where
  served_in : (given left : List PassValue) (olds news : List (SessionEnds S K C)) (outcomes : List (SessionOutcome D O)) → AreServedWith disk_of signers source_of sink_of clock_of given left olds news outcomes
      → AreServedIn disk_of signers source_of sink_of clock_of given left olds news outcomes
  served_in [] [] [] [] [] are = tt
  served_in (given ∷ more) (left ∷ others) (old ∷ olds) (new ∷ news) (outcome ∷ outcomes) are = (
    record { is = are.0; makes = makes signers _ _ are.0.end _ _ are.0.session },
    served_in more others olds news outcomes are.1,
  )
  served_in [] [] [] [] (outcome ∷ outcomes) are = absurd are
  served_in [] [] [] (new ∷ news) outcomes are = absurd are
  served_in [] [] (old ∷ olds) news outcomes are = absurd are
  served_in [] (left ∷ others) olds news outcomes are = absurd are
  served_in (given ∷ more) [] olds news outcomes are = absurd are
  served_in (given ∷ more) (left ∷ others) [] news outcomes are = absurd are
  served_in (given ∷ more) (left ∷ others) (old ∷ olds) [] outcomes are = absurd are
  served_in (given ∷ more) (left ∷ others) (old ∷ olds) (new ∷ news) [] are = absurd are

  as_many_outcomes : (given left : List PassValue) (olds news : List (SessionEnds S K C)) (outcomes : List (SessionOutcome D O)) → AreServedWith disk_of signers source_of sink_of clock_of given left olds news outcomes
      → length outcomes ≡ length olds
  as_many_outcomes [] [] [] [] [] are = refl
  as_many_outcomes (given ∷ more) (left ∷ others) (old ∷ olds) (new ∷ news) (outcome ∷ outcomes) are = ap suc (as_many_outcomes more others olds news outcomes are.1)
  as_many_outcomes [] [] [] [] (outcome ∷ outcomes) are = absurd are
  as_many_outcomes [] [] [] (new ∷ news) outcomes are = absurd are
  as_many_outcomes [] [] (old ∷ olds) news outcomes are = absurd are
  as_many_outcomes [] (left ∷ others) olds news outcomes are = absurd are
  as_many_outcomes (given ∷ more) [] olds news outcomes are = absurd are
  as_many_outcomes (given ∷ more) (left ∷ others) [] news outcomes are = absurd are
  as_many_outcomes (given ∷ more) (left ∷ others) (old ∷ olds) [] outcomes are = absurd are
  as_many_outcomes (given ∷ more) (left ∷ others) (old ∷ olds) (new ∷ news) [] are = absurd are

  not_fewer : (m n : ℕ) → m ≡ n → nat_lt m n ≡ false
  not_fewer m n is = grind (arith, nat_tests)

  not_empty : {X : Type 0} (x : X) (xs : List X) → x ∷ xs ≡ [] → ⊥
  not_empty x xs is = absurd (cc)

  fewer : (n : ℕ) → nat_lt 0 (suc n) ≡ true
  fewer n = grind (arith, nat_tests)

  -- the first pass with other places
  split_so : (first : PassValue) (places : ℕ) (given : List PassValue) → All (IsSplitOff first) given → All (IsSplitOff (record first { places = places })) given
  split_so first places given all k d within =
      let is = all k d within in
      record { seats = is.seats; shown = is.shown; places = is.places }

  -- where there are no sessions, none is as good as all
  none_there : (first : PassValue) (places : ℕ) (left : List PassValue) (news : List (SessionEnds S K C)) (outcomes : List (SessionOutcome D O)) → NoneServed left [] news outcomes
      → AreAllServed disk_of signers source_of sink_of clock_of (record first { places = places }) left [] news outcomes (worst_of 0 outcomes)
  none_there first places [] [] [] none = record {
    given = [];
    split = All-nil (IsSplitOff (record first { places = places }));
    served = tt;
    fault_is = refl;
  }
  none_there first places (pass ∷ left) news outcomes none = absurd (not_empty pass left none.no_pass)
  none_there first places [] (new ∷ news) outcomes none = absurd (not_empty new news none.same)
  none_there first places [] [] (outcome ∷ outcomes) none = absurd (not_empty outcome outcomes none.none)

  pub sessions_so : (first : PassValue) (places : ℕ) (left : List PassValue) (olds news : List (SessionEnds S K C)) (outcomes : List (SessionOutcome D O))
      → AllServed disk_of signers source_of sink_of clock_of first left olds news outcomes ⊎ NoneServed left olds news outcomes
      → AreAllServed disk_of signers source_of sink_of clock_of (record first { places = places }) left olds news outcomes (worst_of (length olds) outcomes)
      ⊎ IsNoneServed left olds news outcomes (worst_of (length olds) outcomes)
  sessions_so first places left olds news outcomes (inl all) = inl (record {
    given = all.given;
    split = split_so first places all.given all.split;
    served = served_in all.given left olds news outcomes all.served;
    fault_is = ap (λ (b : Bool). if b then Some run_faults.Memory else gravest_from None outcomes)
        (not_fewer (length outcomes) (length olds) (as_many_outcomes all.given left olds news outcomes all.served));
  })
  sessions_so first places left [] news outcomes (inr none) = inl (none_there first places left news outcomes none)
  sessions_so first places left (old ∷ olds) news outcomes (inr none) = inr (record {
    is = none;
    fault_is = ap (λ (o : List (SessionOutcome D O)). worst_of (suc (length olds)) o) none.none
        ∙ ap (λ (b : Bool). if b then Some run_faults.Memory else None) (fewer (length olds));
  })

-- ---- what they share

module _ {D O : Type 0} (disk_of : DiskGhosts D) (outlet_of : OutletGhosts O) (laws : ended.Laws disk_of outlet_of)
    (instance : InstanceValue D O) (begun : InstanceState) (stands : IsInState outlet_of instance begun) (resumed : IsResumedIn outlet_of instance begun)
    (just : begun.found.lists ≡ lists_of begun.desk_states) (just_editions : begun.found.editions ≡ begun.editions)
    (opened : List (CountedView D)) (same_desks : map desk_in opened ≡ instance.desks) (board : BoardSeat) (board_shown : board.shown ≡ shown_at instance.press.at ∷ [])
    (viewed : List ShownEdition) (desks : List (View D)) (many : length desks ≡ most_desks) (disk : D) (ring : List SignerState) (outlet : O) (repeated : Result Bool (ExportFault O))
    (are : AreEnds disk_of outlet_of (ended.named_in disk_of outlet_of instance opened board) viewed desks disk ring outlet repeated)
    (out : ComesOut disk_of outlet_of (ended.named_in disk_of outlet_of instance opened board) instance.desks instance.journal.disk instance.outlet viewed desks disk ring outlet repeated are)
    (first : PassValue) (is_first : IsFirstPass (ended.named_in disk_of outlet_of instance opened board) first) (first_shown : first.shown ≡ board.shown) (places : ℕ) (left : List PassValue)
    (shared : AreShared (record first { places = places } ∷ left) desks)
    (seen : (number : ℕ) → IsPrefix (pass_at (record first { places = places } ∷ left) number).shown viewed) where
  abbrev last : InstanceState
  last = ended.ended disk_of outlet_of laws instance begun stands resumed just just_editions opened same_desks board viewed desks many disk ring outlet repeated are out

  abbrev passes : List PassValue
  passes = record first { places = places } ∷ left

  -- the records of a desk's commands are those of the desk
  records_by : (number : ℕ) (desk : Option (View D)) (state : Option DeskState) → InAt number desk state → (d : View D) → desk ≡ Some d → map spelling (commands_of state) ≡ d.records
  records_by number None state is d there = absurd (cc)
  records_by number (Some desk) None is d there = absurd is
  records_by number (Some desk) (Some state) is d there = sym is.commands.recorded.spelled ∙ ap records_or there

  there : {X : Type 0} (xs : List X) (n : ℕ) → n < length xs → (x : X) × (slice_get xs n ≡ Some x)
  there [] n within = absurd (omega (arith, within))
  there (x ∷ xs) zero within = (x, refl)
  there (x ∷ xs) (suc n) within = there xs n (omega (arith, within))

  got : {X : Type 0} (xs : List X) (n : ℕ) (d x : X) → slice_get xs n ≡ Some x → get_or xs n d ≡ x
  got [] n d x is = absurd (cc)
  got (y ∷ xs) zero d x is = cc
  got (y ∷ xs) (suc n) d x is = got xs n d x is

  begun_records : (number : ℕ) → number < most_desks → get_or (map records_in opened) number [] ≡ records_at begun.desk_states number
  begun_records number within =
      let long : length instance.desks ≡ most_desks = as_many instance.desks begun.desk_states stands.desks ∙ sym (lists_long begun.desk_states) ∙ stands.left.desks ∙ stands.one_each in
      let at = there instance.desks number (omega (arith, within, long)) in
      record_at opened number at.0 (ap (λ (v : List (View D)). slice_get v number) same_desks ∙ at.1)
      ∙ sym (records_by number (slice_get instance.desks number) (slice_get begun.desk_states number) (stands.desks number) at.0 at.1)

  pub knows : KnowsFound begun (record first { places = places })
  knows = record {
    count = is_first.count;
    seen = λ desk within. is_first.seen desk within ∙ begun_records desk within;
    none = is_first.none;
    at = instance.press.at;
    left = stands.left;
    kept = stands.kept;
    shown = first_shown ∙ board_shown;
  }

  shared_list : (number : ℕ) → number < most_desks → IsSharedList begun.desk_states last.desk_states passes number
  shared_list number within =
      let at = there desks number (omega (arith, within, many)) in
      let desk : View D = at.0 in
      let here : IsSharedDesk number passes desk = subst (λ (d : View D). IsSharedDesk number passes d) (got desks number desk desk at.1) (shared.each number desk (omega (arith, within, many))) in
      let records : records_at last.desk_states number ≡ desk.records = records_by number (slice_get desks number) (slice_get last.desk_states number) (out.are number) desk at.1 in
      let counted : length desk.records ≡ length (commands_at last.desk_states number) = sym (ap length records) ∙ length-map (commands_at last.desk_states number) spelling in
      let recovered : (seat_of passes 0 number).recovered ≡ length (commands_at begun.desk_states number) =
      is_first.recovered number within ∙ ap length (begun_records number within) ∙ length-map (commands_at begun.desk_states number) spelling in
      record {
        begins = λ pass. subst (λ (r : List (List ℕ)). IsPrefix (seat_of passes pass number).seen r) (sym records) (here.begins pass);
        stands = λ pass. subst (λ (r : List (List ℕ)). StandsIn r (made_with passes pass number)) (sym records) (here.stands pass);
        once = λ place past fits. here.once place (omega (arith, past, recovered)) (omega (arith, fits, counted));
      }

  after_more : (less more : List (List Command)) → AreMore less more → (before : List Edition) (run : List Stood) → AreAfter less before run → AreAfter more before run
  after_more less more grow before [] all = tt
  after_more less more grow before (stood ∷ run) all = (
    record { left = laws.left less more (before ++ stood.edition ∷ []) stood.at grow all.0.left; cut = all.0.cut; kept = all.0.kept; ascending = all.0.ascending; readable = all.0.readable },
    after_more less more grow (before ++ stood.edition ∷ []) run all.1,
  )

  pub shares : Shares begun last passes
  shares = record {
    lists = shared_list;
    viewed = viewed;
    seen = seen;
    shown = record {
      at = instance.press.at;
      left = stands.left;
      kept = stands.kept;
      run = are.closed.is.run;
      made = refl;
      after = after_more are.closed.is.lists (lists_of out.states)
          (ended.more disk_of outlet_of laws instance begun stands resumed just just_editions opened same_desks board viewed desks many disk ring outlet repeated are out)
          begun.editions are.closed.is.run
          (ended.over disk_of outlet_of laws instance begun stands resumed just just_editions opened same_desks board viewed desks many disk ring outlet repeated are out).made.after;
      front = subst (λ (s : List ShownEdition). IsPrefix viewed s)
          (ended.over disk_of outlet_of laws instance begun stands resumed just just_editions opened same_desks board viewed desks many disk ring outlet repeated are out).shown are.shown;
    };
  }

  -- ---- the disks

  within_list : {X : Type 0} (xs : List X) (n : ℕ) (x : X) → slice_get xs n ≡ Some x → n < length xs
  within_list [] n x is = absurd (cc)
  within_list (y ∷ xs) zero x is = omega arith
  within_list (y ∷ xs) (suc n) x is = let rest = within_list xs n x is in omega (arith, rest)

  front : (number : ℕ) (d n : View D) → slice_get instance.desks number ≡ Some d → slice_get desks number ≡ Some n → IsPrefix d.records n.records
  front number d n was is =
      let within = within_list desks number n is in
      let here : IsSharedDesk number passes n = subst (λ (v : View D). IsSharedDesk number passes v) (got desks number n n is) (shared.each number n within) in
      let one = record_at opened number d (ap (λ (v : List (View D)). slice_get v number) same_desks ∙ was) in
      subst (λ (r : List (List ℕ)). IsPrefix r n.records) (is_first.seen number (omega (arith, within, many)) ∙ one) (here.begins 0)

  pub kept : (olds news : List D) → AreOpened disk_of 0 olds instance.desks → ((n : ℕ) → OpenedAt disk_of n (slice_get olds n) (slice_get instance.desks n) (slice_get begun.desk_states n)) → AreClosed disk_of desks news
      → AreKept disk_of olds news begun.desk_states last.desk_states
  kept olds news opens each closed = λ n.
      kept_at disk_of n (slice_get olds n) (slice_get instance.desks n) (slice_get desks n) (slice_get news n) (slice_get begun.desk_states n) (slice_get out.states n)
      (each n) (begins_at laws.run.commands n (slice_get instance.desks n) (slice_get desks n) (slice_get begun.desk_states n) (slice_get out.states n) (stands.desks n) (out.are n) (λ d v was is. front n d v was is))
      (out.counted n) (out.are n) (closed_at disk_of desks news closed n)

  -- ---- the press's disk

  abbrev over : IsLockedOver outlet_of (ended.named_in disk_of outlet_of instance opened board) begun.editions are.closed.is.lists are.closed.is.run are.closed.is.calls are.locked
  over = ended.over disk_of outlet_of laws instance begun stands resumed just just_editions opened same_desks board viewed desks many disk ring outlet repeated are out

  -- what is said of a file at the close
  abbrev finds_all : List ℕ → Type 0
  finds_all file = FindsAll outlet_of (ended.named_in disk_of outlet_of instance opened board) are.locked are.closed.is file

  none_doubted : (doubt : Option (List ℕ)) (is : IfSome doubt (IsInDoubt (ended.named_in disk_of outlet_of instance opened board) begun.editions are.closed.is.lists are.closed.is.run are.closed.is.calls are.locked.press.press.ring are.locked.press.press.at))
      → doubt ≡ None → ended.doubt_edition disk_of outlet_of laws instance begun stands resumed just just_editions opened same_desks board viewed desks many disk ring outlet repeated are out doubt is ≡ None
  none_doubted None is none = refl
  none_doubted (Some entry) is none = absurd (cc)

  pub press : (session : List ℕ) (old new : D) → IsPressFound disk_of session old instance.journal.disk begun → new ≡ disk → IsPressServed disk_of session old new begun last
  press session old new at same =
      let found : AreFound (ended.named_in disk_of outlet_of instance opened board) begun.editions = ended.found disk_of outlet_of laws instance begun stands resumed just just_editions opened same_desks board viewed desks many disk ring outlet repeated are out in
      let here : new ≡ are.locked.press.journal.disk = same ∙ are.disk_is in
      record {
        whole = at.whole;
        found = at.found;
        known = at.known;
        records = at.records;
        cuts = cuts_found (store_in begun) begun instance.press.at stands.left at.records;
        told = subst (λ (d : D). IfSome (disk_of.content d) (λ _. IsSome are.locked.press.journal.records)) (sym here) are.closed.known;
        is_open = at.is_open;
        left = subst (λ (d : D). IfSome (disk_of.content d) (HoldsIn last)) (sym here)
            (some_so (disk_of.content are.locked.press.journal.disk) finds_all (HoldsIn last) are.closed.bytes (λ file all. out.tied begun.editions found file (all begun.editions)));
        images = subst (λ (d : D). (image : List ℕ) → disk_of.may_leave d image → IfSome (disk_of.content d) (λ file. HoldsIn last image)) (sym here)
            (λ image may. some_so (disk_of.content are.locked.press.journal.disk) (λ (file : List ℕ). finds_all image) (λ (file : List ℕ). HoldsIn last image) (are.closed.images image may) (λ file all. out.tied begun.editions found image (all begun.editions)));
        cause = λ some.
            let rose = out.press.cause (λ none. some (none_doubted are.locked.press.journal.doubt over.doubt none)) in
            record {
              from = rose.from;
              to = rose.to;
              begins = omega (arith, at.later, rose.begins);
              risen = rose.risen;
              ends = subst (λ (d : D). rose.to ≤ disk_of.fault_count d) (sym same) rose.ends;
            };
        later = subst (λ (d : D). disk_of.fault_count old ≤ disk_of.fault_count d) (sym same) (omega (arith, at.later, out.press.later));
      }

  -- ---- the sets of the run's editions

  published_so : StayPublished → (vouched : Vouched) (lists : List (List Command)) → AreMore lists (lists_of out.states) → (before : List Edition) (run : List Stood) → AreAfter lists before run
      → ((k : ℕ) (d : Stood) → k < length run → IsPublished (premises_named (ended.named_in disk_of outlet_of instance opened board) lists vouched) (get_or run k d).edition (content_at (get_or run k d).at.set))
      → AreFoundSound (premises_of vouched last) before (editions_of run)
  published_so stay vouched lists grow before [] after all = tt
  published_so stay vouched lists grow before (stood ∷ run) after all =
      let premises = premises_named (ended.named_in disk_of outlet_of instance opened board) lists vouched in
      let set : content_at stood.at.set ≡ set_after (before ++ stood.edition ∷ []) = (λ i uri. after.0.left.set uri i) in
      let held : (desk : ℕ) → cut_at stood.edition.cut desk ≤ length (get_or lists desk []) = (λ desk. subst (λ (cut : List ℕ). cut_at cut desk ≤ length (get_or lists desk [])) after.0.cut (after.0.left.taken_in desk)) in (
        subst (λ (c : Contents). IsPublished (premises_of vouched last) stood.edition c) set
            (stay premises (lists_of out.states) stood.edition (content_at stood.at.set) grow held (all 0 stood (omega arith))),
        published_so stay vouched lists grow (before ++ stood.edition ∷ []) run after.1 (λ k d within. all (suc k) d (omega (arith, within))),
      )

  run_vouched : (vouched : Vouched) → AreVouchedIn vouched last → All (IsVouchedBy vouched) are.closed.is.calls
  run_vouched = ended.run_calls disk_of outlet_of laws instance begun stands resumed just just_editions opened same_desks board viewed desks many disk ring outlet repeated are out

  run_steps : (vouched : Vouched) → AreVouchedIn vouched last → AreFoundSteps (ended.named_in disk_of outlet_of instance opened board) begun.editions vouched
  run_steps vouched all = ended.found_steps disk_of outlet_of laws instance begun stands resumed just just_editions opened same_desks board viewed desks many disk ring outlet repeated are out vouched all.found

  grown : AreMore are.closed.is.lists (lists_of out.states)
  grown = ended.more disk_of outlet_of laws instance begun stands resumed just just_editions opened same_desks board viewed desks many disk ring outlet repeated are out

  pub published : StayPublished → (vouched : Vouched) → AreVouchedIn vouched last → AreFoundSound (premises_of vouched last) begun.editions (editions_of are.closed.is.run)
  published stay vouched vouches =
      let sound = over.made.sound vouched (run_vouched vouched vouches) (run_steps vouched vouches) in
      published_so stay vouched are.closed.is.lists grown begun.editions are.closed.is.run over.made.after (λ k d within. sound.published k d within)

  -- ---- cuts

  takes : (edition : Edition) → ((desk : ℕ) → cut_at edition.cut desk ≤ length (get_or are.closed.is.lists desk [])) → TakesNoMore last.desk_states edition
  takes edition within desk =
      let long = more_long are.closed.is.lists (lists_of out.states) (ended.more disk_of outlet_of laws instance begun stands resumed just just_editions opened same_desks board viewed desks many disk ring outlet repeated are out) desk in
      omega (arith, within desk, long, ap length (list_at out.states desk))

  take_run : (before : List Edition) (run : List Stood) → AreAfter are.closed.is.lists before run → All (TakesNoMore last.desk_states) (editions_of run)
  take_run before [] after = All-nil (TakesNoMore last.desk_states)
  take_run before (stood ∷ run) after = All-cons (TakesNoMore last.desk_states) stood.edition (editions_of run)
      (takes stood.edition (λ desk. subst (λ (cut : List ℕ). cut_at cut desk ≤ length (get_or are.closed.is.lists desk [])) after.0.cut (after.0.left.taken_in desk)))
      (take_run (before ++ stood.edition ∷ []) run after.1)

  take_doubt : (made : List Edition) (doubt : Option (List ℕ)) (is : IfSome doubt (IsInDoubt (ended.named_in disk_of outlet_of instance opened board) begun.editions are.closed.is.lists are.closed.is.run are.closed.is.calls are.locked.press.press.ring are.locked.press.press.at))
      → All (TakesNoMore last.desk_states) made
      → All (TakesNoMore last.desk_states) (and_doubt made (ended.doubt_edition disk_of outlet_of laws instance begun stands resumed just just_editions opened same_desks board viewed desks many disk ring outlet repeated are out doubt is))
  take_doubt made None is all = all
  take_doubt made (Some entry) is all = All-append (TakesNoMore last.desk_states) made (edition_of is.prepared ∷ []) all
      (All-cons (TakesNoMore last.desk_states) (edition_of is.prepared) [] (takes (edition_of is.prepared) (λ desk. is.left.taken_in desk)) (All-nil (TakesNoMore last.desk_states)))

  pub cuts : All (TakesNoMore last.desk_states) (and_doubt (editions_of are.closed.is.run) last.in_doubt)
  cuts = take_doubt (editions_of are.closed.is.run) are.locked.press.journal.doubt over.doubt (take_run begun.editions are.closed.is.run over.made.after)

  -- those that were found follow one another, with those of the run
  pub found_cuts : (vouched : Vouched) → AreVouchedIn vouched last → All (TakesNoMore last.desk_states) begun.editions
  found_cuts vouched vouches =
      let steps = ended.steps disk_of outlet_of laws instance begun stands resumed just just_editions opened same_desks board viewed desks many disk ring outlet repeated are out vouched vouches in
      front_of (TakesNoMore last.desk_states) begun.editions (editions_of are.closed.is.run) (λ k d within desk.
      let step = steps k (get_or last.editions k d) (slice_get-get_or last.editions k d within) in
      subst (λ (list : List Command). cut_at (get_or last.editions k d).cut desk ≤ length list) (list_at last.desk_states desk) (step.1.cut.held desk))

  -- ---- room for a history

  found_records : (number : ℕ) → number < most_desks → (d : View D) → slice_get desks number ≡ Some d → get_or (map records_in opened) d.number [] ≡ records_at begun.desk_states number
  found_records number within d is =
      let here : IsSharedDesk number passes d = subst (λ (v : View D). IsSharedDesk number passes v) (got desks number d d is) (shared.each number d (within_list desks number d is)) in
      ap (λ (k : ℕ). get_or (map records_in opened) k []) here.number_is ∙ begun_records number within

  pub has_room : (history : History) → MayFind history begun → HasRoomUnknown last → HasRoom last
  has_room history find unknown = record {
    desks = λ desk within. out.fits desk (commands_at begun.desk_states desk) (found_records desk within) (found_fits laws.run history begun find desk);
    press = λ some.
        subst (λ (s : Bases). press_bytes_for s (and_doubt last.editions last.in_doubt) ≤ press_limit) over.site
        (press_room laws.run (ended.named_in disk_of outlet_of instance opened board) begun.editions are.closed.is.lists are.closed.is.run are.closed.is.calls are.locked.press.press.ring are.locked.press.press.at
        are.locked.press.press.rrdp.session are.locked.press.press.site are.locked.press.journal.records over.records over.made.left over.room are.locked.press.journal.doubt over.doubt over.doubt_room
        (λ found. subst (λ (s : Bases). press_bytes_for s begun.editions ≤ press_limit) (sym (over.site ∙ stands.site)) (found_press laws.run history begun find found))
        (λ none more. subst (λ (s : Bases). press_bytes_for s (and_doubt last.editions last.in_doubt) ≤ press_limit) (sym over.site) (unknown none more))
        some);
    bytes = made_bytes laws.run (ended.named_in disk_of outlet_of instance opened board) begun.editions are.closed.is.lists are.closed.is.run are.closed.is.calls are.locked.press.press.ring are.locked.press.press.at
        are.locked.press.press.rrdp.session are.locked.press.press.site (found_bytes laws.run history begun find) over.made.after are.locked.press.journal.doubt over.doubt;
  }
