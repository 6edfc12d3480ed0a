-- A run over all desks, from what opening found, what the session did, and what closing leaves.
use Rattle.std.proofs.Common.{◌≡◌, ℕ, zero, suc, ◌+◌, ◌≤◌, List, [], ◌∷◌, ◌++◌, map, refl, sym, ◌∙◌, ap, subst, arith, append-nil}
use Rattle.std.specs.Prelude.{Bool, true, not, Option, None, Some, Result, Ok, IfSome, slice_get, ⊤}
use Rattle.std.specs.Option.{option_map}
use Rattle.std.proofs.lemmas.Option.{IfSome_then}
use Rattle.host_calls.specs.Rise.{HasRisen}
use Rattle.disk_api.specs.declared.disk.Disk.{Ghosts as DiskGhosts}
use Rattle.line_loop.specs.declared.traits.Source.{Ghosts as SourceGhosts}
use Rattle.line_loop.specs.declared.traits.Sink.{Ghosts as SinkGhosts}
use Rattle.line_loop.specs.declared.traits.Clock.{Ghosts as ClockGhosts}
use Rattle.line_loop.specs.declared.session.SessionEnd.{SessionEnd}
use Rattle.line_loop.specs.declared.session.SessionEnd.TheVariants.{SourceFault, SinkFault}
use Rattle.authority_book.specs.declared.commands.Command.{Command}
use Rattle.cmd_codec.specs.Spelling.{spelling}
use Rattle.desk_core.specs.View.{View}
use Rattle.desk_core.specs.Commands.{Records, HasCommands}
use Rattle.session_lines.specs.declared.running.SessionEnds.{SessionEnds}
use Rattle.krill_top.specs.declared.running.RunEnd.{RunEnd}
use Rattle.krill_top.specs.DeskStates.{DeskStates, DeskState}
use Rattle.signer_api.specs.State.{SignerState}
use Rattle.krill_top.specs.declared.ends.Ends.{Ends}
use Rattle.krill_top.specs.declared.starting.Started.{Started}
use Rattle.key_ids.specs.Uris.{Bases}
use Rattle.editions.specs.Edition.{Edition}
use Rattle.gate_journal.specs.View.{IsSafe as IsSafeJournal}
use Rattle.krill_top.specs.InstanceState.{InstanceState, at_clock, lists_of, outlet_state, store_in, is_exported}
use Rattle.krill_top.specs.declared.faults.RunFault.{RunFault}
use Rattle.krill_top.specs.declared.faults.RunFault.TheVariants as run_faults
use Rattle.krill_top.specs.inner.Started.{IsStarted, IsStartedIn}
use Rattle.krill_top.proofs.PressStanding.{press_kept}
use Rattle.krill_top.specs.inner.RunLaws.{NewestLaw, RecordsLaw, RunLaws}
use Rattle.krill_top.proofs.PressServed.{press_served, room_unknown}
use Rattle.krill_top.specs.Session.{session_of}
use Rattle.krill_top.specs.Exports.{Repeats}
use Rattle.outlet_api.specs.declared.outlet.Outlet.{Ghosts as OutletGhosts}
use Rattle.outlet_api.specs.declared.exports.ExportFault.{ExportFault}
use Rattle.krill_top.specs.DesksInStates.{IsIn, InAt, AreIn, all_stored, DeskGoesOn, DeskGoesOnAt, DesksGoOn}
use Rattle.krill_top.specs.inner.Handlers.{worked}
use Rattle.krill_top.specs.inner.Instances.{InstanceValue, TimedInstance, IsInState, Arrives, Moves, MovesTimed, stored_in}
use Rattle.krill_top.specs.Statuses.{run_status, end_fault}
use Rattle.krill_top.specs.inner.Opened.{IsOpened, IsClosed, AreOpened, AreClosed}
use Rattle.krill_top.specs.Sessions.{Served, Converses}
use Rattle.krill_top.specs.Telling.{Tells}
use Rattle.krill_top.specs.Working.{Works, ended_by}
use Rattle.krill_top.specs.Run.{IsNext, IsServed, IsServedAt, AreServed, Leaves, LeavesFound, ServesOne, TellsOne, IsFirstHeld, FindsHeld, WorksOne, streams_of, worked_by}
use Rattle.krill_top.specs.Summaries.{summary_line}
use Rattle.krill_top.specs.SharedRuns.{ServesNone}
use Rattle.session_lines.specs.Keeping.{KeptValue, nothing_kept}
use Rattle.krill_top.proofs.Standing.{go_on_same}
use Rattle.krill_top.proofs.Moving.{arrives_then}
use Rattle.krill_top.proofs.WorkedWell.{begun_exported, works_exported}
use Rattle.krill_top.proofs.Exporting.{exported_shown}
use Rattle.krill_top.proofs.Closing.{well_exported, started_shown, coherent_begun, repeats_same}
use Rattle.krill_top.proofs.Lists.{lists_long}
use Rattle.krill_top.proofs.RoomServed.{room_served}
use Rattle.krill_top.proofs.RunHistories.{run_served, goes_on}
use Rattle.krill_top.proofs.Cuts.{made_behind}
use Rattle.krill_top.proofs.FoundCuts.{cuts_found}
use Rattle.krill_top.proofs.SoundRuns.{found_sound, found_within}
use Rattle.krill_top.proofs.Crashes.{all_kept, reopened}
use Rattle.krill_top.proofs.Unchanged.{found_goes_on, found_reopened}
use Rattle.krill_top.proofs.InTurn.{opened_stood_for, closed_left}

module _ {D : Type 0} (disk_of : DiskGhosts D) where
  -- the states in which the opened desks begin
  abbrev opened_state : (number : ℕ) (disk : D) (desk : View D) → IsOpened disk_of number disk desk → DeskState
  opened_state number disk desk opened = record { commands = opened.commands.0; doubt = None }

  abbrev opened_states : (number : ℕ) (disks : List D) (desks : List (View D)) → AreOpened disk_of number disks desks → DeskStates
  opened_states number [] [] all = []
  opened_states number [] (desk ∷ desks) all = absurd all
  opened_states number (disk ∷ disks) [] all = absurd all
  opened_states number (disk ∷ disks) (desk ∷ desks) all =
      opened_state number disk desk all.0 ∷ opened_states (suc number) disks desks all.1

  -- a desk was opened, and has the commands of the state
  pub record OpenedAs (number : ℕ) (disk : D) (desk : View D) (state : DeskState) : Type 0 where
    pub opened : IsOpened disk_of number disk desk
    pub has : HasCommands desk state.commands
    pub is_open : state.doubt ≡ None

  abbrev pub OpenedAt : ℕ → Option D → Option (View D) → Option DeskState → Type 0
  OpenedAt number None None None = ⊤
  OpenedAt number (Some disk) (Some desk) (Some state) = OpenedAs number disk desk state
  OpenedAt number disk desk state = ⊥

  abbrev pub ClosedAt : Option (View D) → Option D → Type 0
  ClosedAt None None = ⊤
  ClosedAt (Some desk) (Some disk) = IsClosed disk_of desk disk
  ClosedAt desk disk = ⊥

  pub opened_at : (number : ℕ) (disks : List D) (desks : List (View D)) (all : AreOpened disk_of number disks desks) (n at : ℕ) → at ≡ number + n
      → OpenedAt at (slice_get disks n) (slice_get desks n) (slice_get (opened_states number disks desks all) n)
  opened_at number [] [] all n at is = tt
  opened_at number [] (desk ∷ desks) all n at is = absurd all
  opened_at number (disk ∷ disks) [] all n at is = absurd all
  opened_at number (disk ∷ disks) (desk ∷ desks) all zero at is = record {
    opened = subst (λ (k : ℕ). IsOpened disk_of k disk desk) (omega (arith, is)) all.0;
    has = all.0.commands.1;
    is_open = refl;
  }
  opened_at number (disk ∷ disks) (desk ∷ desks) all (suc n) at is = opened_at (suc number) disks desks all.1 n at (omega (arith, is))

  pub closed_at : (desks : List (View D)) (disks : List D) → AreClosed disk_of desks disks → (n : ℕ) → ClosedAt (slice_get desks n) (slice_get disks n)
  closed_at [] [] all n = tt
  closed_at [] (disk ∷ disks) all n = absurd all
  closed_at (desk ∷ desks) [] all n = absurd all
  closed_at (desk ∷ desks) (disk ∷ disks) all zero = all.0
  closed_at (desk ∷ desks) (disk ∷ disks) all (suc n) = closed_at desks disks all.1 n

  in_at : (number : ℕ) (disk : Option D) (desk : Option (View D)) (state : Option DeskState) → OpenedAt number disk desk state → InAt number desk state
  in_at number None None None is = tt
  in_at number None None (Some state) is = absurd is
  in_at number None (Some desk) state is = absurd is
  in_at number (Some disk) None state is = absurd is
  in_at number (Some disk) (Some desk) None is = absurd is
  in_at number (Some disk) (Some desk) (Some state) is = record {
    number_is = is.opened.number_is;
    commands = is.has;
    doubt = is.opened.settled ∙ ap (option_map spelling) (sym is.is_open);
    shut = (λ none. is.is_open, λ none. is.opened.is_open);
    next = subst (λ (d : Option Command). IfSome d (IsNext number state)) (sym is.is_open) tt;
  }

  served_one : (number : ℕ) (disk : D) (desk new : View D) (back : D) (was is : DeskState) → OpenedAs number disk desk was → DeskGoesOn disk_of desk.disk new.disk was is → IsIn number new is → IsClosed disk_of new back
      → IsServed disk_of number disk back was is
  served_one number disk desk new back was is opened goes stands closed =
      let back_count : disk_of.fault_count back ≡ disk_of.fault_count new.disk = ap disk_of.fault_count closed.same in
      record {
        kept = record {
          found = opened_stood_for disk_of number disk desk was.commands opened.opened opened.has;
          is_open = opened.is_open;
          accepted = goes.accepted;
          grows = goes.commands;
          recorded = subst (λ (n : ℕ). Records n (map spelling is.commands) is.commands) stands.number_is
              (subst (λ (r : List (List ℕ)). Records new.number r is.commands) stands.commands.recorded.spelled stands.commands.recorded);
          next = stands.next;
          left = closed_left disk_of new back is.commands is.doubt closed stands.commands.recorded.spelled stands.doubt;
          cause = λ shut.
              let rose = goes.cause opened.is_open shut in
              record {
                from = rose.from;
                to = rose.to;
                begins = omega (arith, opened.opened.later, rose.begins);
                risen = rose.risen;
                ends = omega (arith, rose.ends, back_count);
              };
          later = omega (arith, opened.opened.later, goes.later, back_count);
        };
        bytes = λ none. ap disk_of.content closed.same ∙ goes.bytes none
            ∙ ap (option_map (all_stored (map spelling was.commands) (map spelling goes.accepted))) opened.opened.bytes;
      }

  served_at : (number : ℕ) (disk : Option D) (desk new : Option (View D)) (back : Option D) (was is : Option DeskState)
      → OpenedAt number disk desk was → DeskGoesOnAt disk_of desk new was is → InAt number new is → ClosedAt new back → IsServedAt disk_of number disk back was is
  served_at number None None None None None None opened goes stands closed = tt
  served_at number None None None (Some back) None None opened goes stands closed = absurd closed
  served_at number None None None back None (Some is) opened goes stands closed = absurd goes
  served_at number None None (Some new) back None is opened goes stands closed = absurd goes
  served_at number None None new back (Some was) is opened goes stands closed = absurd opened
  served_at number None (Some desk) new back was is opened goes stands closed = absurd opened
  served_at number (Some disk) None new back was is opened goes stands closed = absurd opened
  served_at number (Some disk) (Some desk) new back None is opened goes stands closed = absurd opened
  served_at number (Some disk) (Some desk) None back (Some was) is opened goes stands closed = absurd goes
  served_at number (Some disk) (Some desk) (Some new) back (Some was) None opened goes stands closed = absurd goes
  served_at number (Some disk) (Some desk) (Some new) None (Some was) (Some is) opened goes stands closed = absurd closed
  served_at number (Some disk) (Some desk) (Some new) (Some back) (Some was) (Some is) opened goes stands closed =
      served_one number disk desk new back was is opened goes stands closed

  -- the states of desks that were opened
  pub opened_seen : (disks : List D) (desks : List (View D)) → AreOpened disk_of 0 disks desks → (desk_states : DeskStates) × AreIn desks desk_states
  opened_seen disks desks opened = (
    opened_states 0 disks desks opened,
    λ n. in_at n (slice_get disks n) (slice_get desks n) (slice_get (opened_states 0 disks desks opened) n) (opened_at 0 disks desks opened n n (omega arith)),
  )

  -- each of them is in its state
  pub opened_seen_at : (disks : List D) (desks : List (View D)) (opened : AreOpened disk_of 0 disks desks) (n : ℕ)
      → OpenedAt n (slice_get disks n) (slice_get desks n) (slice_get (opened_seen disks desks opened).0 n)
  unfolding opened_seen
  opened_seen_at disks desks opened n = opened_at 0 disks desks opened n n (omega arith)

  -- desks that were opened and closed again
  pub desks_closed_again : (disks : List D) (desks : List (View D)) (news : List D) (opened : AreOpened disk_of 0 disks desks) → AreClosed disk_of desks news
      → (found : DeskStates) × AreIn desks found × AreServed disk_of disks news found found
  unfolding opened_seen
  desks_closed_again disks desks news opened closed =
      let desk_states = opened_seen disks desks opened in (
        desk_states.0,
        desk_states.1,
        λ n. served_at n (slice_get disks n) (slice_get desks n) (slice_get desks n) (slice_get news n) (slice_get desk_states.0 n) (slice_get desk_states.0 n)
            (opened_at 0 disks desks opened n n (omega arith)) (go_on_same disk_of desks desk_states.0 desk_states.1 n) (desk_states.1 n) (closed_at desks news closed n),
      )

-- what a run hands back, and how it went
pub record IsRun {D G S K O C : Type 0} (disk_of : DiskGhosts D) (state_of : G → SignerState) (outlet_of : OutletGhosts O) (source_of : SourceGhosts S) (sink_of : SinkGhosts K)
    (before after : SessionEnds S K C) (end : SessionEnd) (closing : Result Bool (ExportFault O)) (run : RunEnd D G S K O C) (closed : InstanceValue D O) : Type 0 where
  pub desks : AreClosed disk_of closed.desks run.ends.desks.items
  pub press : run.ends.press ≡ closed.journal.disk
  pub safe : IsSafeJournal disk_of closed.journal
  pub signers : map state_of run.ends.signers.items ≡ closed.press.ring
  pub outlet : run.ends.outlet ≡ closed.outlet
  pub sessions : run.sessions.items ≡ after ∷ []
  pub status : run.status ≡ run_status (end_fault end closing)
  pub fault : run.fault ≡ end_fault end closing
  pub source_fault : end ≡ SourceFault → HasRisen (source_of.fault_count before.source) (source_of.fault_count after.source)
  pub sink_fault : end ≡ SinkFault → HasRisen (sink_of.fault_count before.sink) (sink_of.fault_count after.sink)
  pub source_later : source_of.fault_count before.source ≤ source_of.fault_count after.source
  pub sink_later : sink_of.fault_count before.sink ≤ sink_of.fault_count after.sink

-- what opening found is what the run begins with
pub found_first : (opened begun : InstanceState) → opened.found.lists ≡ lists_of opened.desk_states → opened.found.editions ≡ opened.editions → begun ≡ record opened { exported = begun.exported; outlet = begun.outlet }
    → (begun.found.lists ≡ lists_of begun.desk_states) × (begun.found.editions ≡ begun.editions)
found_first opened begun lists editions same = (
  ap (λ (s : InstanceState). s.found.lists) same ∙ lists ∙ ap (λ (s : InstanceState). lists_of s.desk_states) (sym same),
  ap (λ (s : InstanceState). s.found.editions) same ∙ editions ∙ ap (λ (s : InstanceState). s.editions) (sym same),
)

module _ {D G S K O C : Type 0} (disk_of : DiskGhosts D) (state_of : G → SignerState) (outlet_of : OutletGhosts O) (source_of : SourceGhosts S) (sink_of : SinkGhosts K) (clock_of : ClockGhosts C) where
  -- the instance, what the clock tells of a session, and what is kept
  abbrev pub timed_by : SessionEnds S K C → KeptValue → InstanceValue D O → TimedInstance D O
  timed_by ends kept instance = record { instance = instance; clock = clock_of.readings ends.clock; kept = kept }

  -- what closing hands back
  pub record IsHandedBack (run : RunEnd D G S K O C) (closed : InstanceValue D O) : Type 0 where
    pub desks : AreClosed disk_of closed.desks run.ends.desks.items
    pub press : run.ends.press ≡ closed.journal.disk
    pub safe : IsSafeJournal disk_of closed.journal
    pub signers : map state_of run.ends.signers.items ≡ closed.press.ring
    pub outlet : run.ends.outlet ≡ closed.outlet

  -- the desks' disks of such a run
  pub leaves_disks : (P : InstanceState → InstanceState → Type 0) (site : Bases) (random : List ℕ) (ends : Ends D G O) (run : RunEnd D G S K O C) (started : Started D G O) (closed : InstanceValue D O)
      (begins : IsStarted disk_of state_of outlet_of site (session_of random) ends started) → (at : IsStartedIn disk_of state_of outlet_of site (session_of random) ends started (opened_seen disk_of ends.desks.items started.instance.desks begins.desks).0)
      → (done : Arrives disk_of outlet_of P started.instance closed at.begun) → IsHandedBack run closed
      → AreServed disk_of ends.desks.items run.ends.desks.items at.begun.desk_states done.after.desk_states
  unfolding opened_seen
  leaves_disks P site random ends run started closed begins at done is =
      let disks = ends.desks.items in
      let instance : InstanceValue D O = started.instance in
      let found = opened_seen disk_of disks instance.desks begins.desks in
      let ended : InstanceState = done.after in
      subst (λ (b : DeskStates). AreServed disk_of disks run.ends.desks.items b ended.desk_states) (sym at.same)
      (λ n. served_at disk_of n (slice_get disks n) (slice_get instance.desks n) (slice_get closed.desks n) (slice_get run.ends.desks.items n) (slice_get found.0 n) (slice_get ended.desk_states n)
      (opened_at disk_of 0 disks instance.desks begins.desks n n (omega arith))
      (subst (λ (b : DeskStates). DesksGoOn disk_of instance.desks closed.desks b ended.desk_states) at.same done.disks n)
      (done.stands.desks n) (closed_at disk_of closed.desks run.ends.desks.items is.desks n))

  -- what a run leaves that began so and went on so
  pub leaves : NewestLaw → RecordsLaw → (P : InstanceState → InstanceState → Type 0) (site : Bases) (random : List ℕ) (ends : Ends D G O) (run : RunEnd D G S K O C) (started : Started D G O) (closed : InstanceValue D O)
      (begins : IsStarted disk_of state_of outlet_of site (session_of random) ends started) → (at : IsStartedIn disk_of state_of outlet_of site (session_of random) ends started (opened_seen disk_of ends.desks.items started.instance.desks begins.desks).0)
      → (done : Arrives disk_of outlet_of P started.instance closed at.begun) → IsHandedBack run closed → (run.status ≡ 0 → is_exported done.after ≡ true)
      → Leaves disk_of state_of outlet_of random ends at.opened at.begun done.after run
  unfolding opened_seen
  leaves law records P site random ends run started closed begins at done is exported =
      let instance : InstanceValue D O = started.instance in
      let begun : InstanceState = at.begun in
      let ended : InstanceState = done.after in
      record {
        press = press_served disk_of outlet_of records (session_of random) ends.press instance.journal.disk run.ends.press closed begun ended at.press
            (cuts_found (store_in begun) begun instance.press.at at.stands.left at.press.records) done.press done.stands is.safe is.press;
        same_site = done.same_site;
        same_session = done.same_session;
        same_found = done.same_found;
        grown = done.grown;
        steps = λ vouched all. (done.stands.stands vouched all).steps;
        doubt = λ vouched all. IfSome_then ended.in_doubt (done.stands.in_doubt vouched all) (λ edition is. is.1.steps);
        vouch = done.vouch;
        signers_ended = is.signers ∙ done.stands.ring;
        outlet_ended = ap (outlet_state outlet_of) is.outlet ∙ done.stands.outlet;
        coherent = λ was. done.coherent (at.coherent was);
        coherent_then = λ some. done.coherent (coherent_begun outlet_of instance at.opened begun at.stands at.opens.just.exported at.opens.exported some);
        shown = λ so. exported_shown disk_of outlet_of law closed ended done.stands so;
        well = λ zero. exported_shown disk_of outlet_of law closed ended done.stands (exported zero);
      }

  -- what one leaves that changed nothing
  leaves_found : RunLaws → (site : Bases) (random : List ℕ) (ends : Ends D G O) (run : RunEnd D G S K O C) (started : Started D G O) (found : DeskStates)
      → (at : IsStartedIn disk_of state_of outlet_of site (session_of random) ends started found) → AreServed disk_of ends.desks.items run.ends.desks.items at.begun.desk_states at.begun.desk_states
      → IsHandedBack run started.instance → LeavesFound disk_of state_of outlet_of random ends at.opened at.begun run
  leaves_found laws site random ends run started found at disks is =
      let instance : InstanceValue D O = started.instance in
      let begun : InstanceState = at.begun in
      let first = found_first at.opened begun at.opens.just.lists at.opens.just.editions (repeats_same {O = O} (Ok (not (is_exported at.opened))) at.opened begun at.opens.exported) in
      let press = press_served disk_of outlet_of laws.records (session_of random) ends.press instance.journal.disk run.ends.press instance begun begun at.press
      (cuts_found (store_in begun) begun instance.press.at at.stands.left at.press.records) (press_kept disk_of instance.journal.disk begun begun refl) at.stands is.safe is.press in
      record {
        disks = disks;
        press = press;
        signers_ended = is.signers ∙ at.stands.ring;
        outlet_ended = ap (outlet_state outlet_of) is.outlet ∙ at.stands.outlet;
        coherent = at.coherent;
        shown = started_shown outlet_of instance at.opened begun at.stands at.opens.just.exported at.opens.exported;
        found_cuts = λ vouched all. found_within vouched begun (at.stands.stands vouched all).steps begun.editions [] (sym (append-nil begun.editions));
        goes_on = found_goes_on disk_of outlet_of laws ends.desks.items run.ends.desks.items (session_of random) ends.press run.ends.press instance begun at.stands disks press first.0 first.1;
        crash = found_reopened disk_of outlet_of laws ends.desks.items run.ends.desks.items (session_of random) ends.press run.ends.press instance begun at.stands disks press;
      }

  pub serves : RunLaws → (site : Bases) (random : List ℕ) (ends : Ends D G O) (before after : SessionEnds S K C) (end : SessionEnd) (closing : Result Bool (ExportFault O))
      (run : RunEnd D G S K O C) (started : Started D G O) (served closed : InstanceValue D O)
      → IsStarted disk_of state_of outlet_of site (session_of random) ends started
      → Served disk_of outlet_of source_of sink_of (streams_of before) (streams_of after) (timed_by before nothing_kept started.instance) (timed_by after run.kept served) end
      → Moves disk_of outlet_of (Repeats closing) served closed
      → IsRun disk_of state_of outlet_of source_of sink_of before after end closing run closed
      → ServesOne disk_of state_of outlet_of source_of sink_of clock_of site random ends before run
  unfolding opened_seen arrives_then
  serves laws site random ends before after end closing run started served closed begins session repeats is =
      let disks = ends.desks.items in
      let instance : InstanceValue D O = started.instance in
      let found = opened_seen disk_of disks instance.desks begins.desks in
      let at : IsStartedIn disk_of state_of outlet_of site (session_of random) ends started found.0 = begins.each found.0 found.1 in
      let begun : InstanceState = at.begun in
      let done = session begun at.stands in
      let last = repeats done.after done.stands in
      let Q : InstanceState → InstanceState → Type 0 = Repeats closing in
      let whole : Arrives disk_of outlet_of (λ b a. Q done.after a) instance closed begun =
      arrives_then disk_of outlet_of (λ b a. Converses source_of sink_of (streams_of before) (streams_of after) end (at_clock (clock_of.readings before.clock) nothing_kept b) (at_clock (clock_of.readings after.clock) run.kept a)) Q (λ b a. Q done.after a) instance served closed begun done last (λ after step. step) in
      let disks_then = leaves_disks (λ b a. Q done.after a) site random ends run started closed begins at whole
      (record { desks = is.desks; press = is.press; safe = is.safe; signers = is.signers; outlet = is.outlet }) in
      let at_first = found_first at.opened begun at.opens.just.lists at.opens.just.editions (repeats_same {O = O} (Ok (not (is_exported at.opened))) at.opened begun at.opens.exported) in
      let left : Leaves disk_of state_of outlet_of random ends at.opened begun last.after run = leaves laws.newest laws.records (λ b a. Q done.after a) site random ends run started closed begins at whole
      (record { desks = is.desks; press = is.press; safe = is.safe; signers = is.signers; outlet = is.outlet })
      (λ zero. well_exported end closing done.after last.after last.step (sym is.status ∙ zero)) in
      let grown : (made : List Edition) × (last.after.editions ≡ begun.editions ++ made) = (last.stands.cuts.made, made_behind begun last.after whole.same_found at_first.1 last.stands.cuts) in
      record {
        after = after;
        end = end;
        closing = closing;
        opened = at.opened;
        begun = begun;
        served = done.after;
        ended = last.after;
        summary = started.summary;
        handed_back = is.sessions;
        status = is.status;
        fault = is.fault;
        opens = at.opens;
        session = done.step;
        repeats = last.step;
        crash = λ images image may. reopened laws disk_of disks run.ends.desks.items (session_of random) ends.press run.ends.press begun last.after
            (all_kept disk_of disks run.ends.desks.items begun.desk_states last.after.desk_states disks_then) left.press
            (sym (lists_long last.after.desk_states) ∙ last.stands.left.desks ∙ last.stands.one_each) images image may;
        published = λ vouched. found_sound laws begun last.after
            (λ k. run_served disk_of k (slice_get disks k) (slice_get run.ends.desks.items k) (slice_get begun.desk_states k) (slice_get last.after.desk_states k) (disks_then k))
            (last.stands.left.desks ∙ last.stands.one_each) (λ vouched all. (last.stands.stands vouched all).steps) grown.0 grown.1 vouched;
        cuts = last.stands.cuts.within;
        found_cuts = λ vouched all. found_within vouched last.after (last.stands.stands vouched all).steps begun.editions grown.0 grown.1;
        disks = disks_then;
        goes_on = λ room history find. goes_on laws history begun last.after whole.same_site whole.same_found at_first.0 at_first.1 find
            (room_served disk_of laws history begun last.after find disks run.ends.desks.items instance.desks closed.desks (stored_in closed) at_first.1 whole.same_site whole.same_found disks_then whole.disks last.stands.journal
            (room_unknown disk_of (session_of random) ends.press run.ends.press begun last.after left.press room))
            (λ k. run_served disk_of k (slice_get disks k) (slice_get run.ends.desks.items k) (slice_get begun.desk_states k) (slice_get last.after.desk_states k) (disks_then k))
            (sym (lists_long last.after.desk_states) ∙ last.stands.left.desks ∙ last.stands.one_each) whole.grown.0 whole.grown.1
            (λ vouched all. (last.stands.stands vouched all).steps) (λ vouched all. IfSome_then last.after.in_doubt (last.stands.in_doubt vouched all) (λ edition is. is.1.steps));
        leaves = record left { grown = grown };
        source_fault = is.source_fault;
        sink_fault = is.sink_fault;
        source_later = is.source_later;
        sink_later = is.sink_later;
      }

  -- ---- a workload

  -- what closing leaves of one
  pub record IsWorked (before after : SessionEnds S K C) (run : RunEnd D G S K O C) (result : Result (Unit {0}) (Option RunFault)) (closed : InstanceValue D O) : Type 0 where
    pub handed_back : IsHandedBack run closed
    pub sessions : run.sessions.items ≡ after ∷ []
    pub status : run.status ≡ run_status (ended_by result)
    pub fault : run.fault ≡ ended_by result
    pub source : after.source ≡ before.source

  pub works_one : RunLaws → (authorities : ℕ) (site : Bases) (random : List ℕ) (ends : Ends D G O) (before after : SessionEnds S K C) (result : Result (Unit {0}) (Option RunFault))
      (run : RunEnd D G S K O C) (started : Started D G O) (closed : InstanceValue D O)
      → IsStarted disk_of state_of outlet_of site (session_of random) ends started
      → ((state : InstanceState) → IsInState outlet_of started.instance state → IsFirstHeld state.desk_states None)
      → MovesTimed disk_of outlet_of (λ b a. Works sink_of authorities result (worked before.sink b) (worked after.sink a)) (timed_by before nothing_kept started.instance) (timed_by after run.kept closed)
      → IsWorked before after run result closed
      → WorksOne disk_of state_of outlet_of sink_of clock_of authorities site random ends before run
  unfolding opened_seen
  works_one laws authorities site random ends before after result run started closed begins none works is =
      let disks = ends.desks.items in
      let instance : InstanceValue D O = started.instance in
      let found = opened_seen disk_of disks instance.desks begins.desks in
      let at : IsStartedIn disk_of state_of outlet_of site (session_of random) ends started found.0 = begins.each found.0 found.1 in
      let begun : InstanceState = at.begun in
      let done = works begun at.stands in
      let disks_then = leaves_disks (λ b a. Works sink_of authorities result (worked_by clock_of before nothing_kept b) (worked_by clock_of after run.kept a)) site random ends run started closed begins at done is.handed_back in
      let at_first = found_first at.opened begun at.opens.just.lists at.opens.just.editions (repeats_same {O = O} (Ok (not (is_exported at.opened))) at.opened begun at.opens.exported) in
      let left : Leaves disk_of state_of outlet_of random ends at.opened begun done.after run = leaves laws.newest laws.records (λ b a. Works sink_of authorities result (worked_by clock_of before nothing_kept b) (worked_by clock_of after run.kept a)) site random ends run started closed begins at done is.handed_back
      (λ zero. works_exported sink_of authorities result (worked_by clock_of before nothing_kept begun) (worked_by clock_of after run.kept done.after) (begun_exported O at.opened begun at.opens.exported) done.step (sym is.status ∙ zero)) in
      let grown : (made : List Edition) × (done.after.editions ≡ begun.editions ++ made) = (done.stands.cuts.made, made_behind begun done.after done.same_found at_first.1 done.stands.cuts) in
      record {
        after = after;
        opened = at.opened;
        begun = begun;
        ended = done.after;
        summary = started.summary;
        result = result;
        empty = none begun at.stands;
        handed_back = is.sessions;
        status = is.status;
        fault = is.fault;
        same_source = is.source;
        opens = at.opens;
        works = done.step;
        crash = λ images image may. reopened laws disk_of disks run.ends.desks.items (session_of random) ends.press run.ends.press begun done.after
            (all_kept disk_of disks run.ends.desks.items begun.desk_states done.after.desk_states disks_then) left.press
            (sym (lists_long done.after.desk_states) ∙ done.stands.left.desks ∙ done.stands.one_each) images image may;
        published = λ vouched. found_sound laws begun done.after
            (λ k. run_served disk_of k (slice_get disks k) (slice_get run.ends.desks.items k) (slice_get begun.desk_states k) (slice_get done.after.desk_states k) (disks_then k))
            (done.stands.left.desks ∙ done.stands.one_each) (λ vouched all. (done.stands.stands vouched all).steps) grown.0 grown.1 vouched;
        cuts = done.stands.cuts.within;
        found_cuts = λ vouched all. found_within vouched done.after (done.stands.stands vouched all).steps begun.editions grown.0 grown.1;
        disks = disks_then;
        goes_on = λ room history find. goes_on laws history begun done.after done.same_site done.same_found at_first.0 at_first.1 find
            (room_served disk_of laws history begun done.after find disks run.ends.desks.items instance.desks closed.desks (stored_in closed) at_first.1 done.same_site done.same_found disks_then done.disks done.stands.journal
            (room_unknown disk_of (session_of random) ends.press run.ends.press begun done.after left.press room))
            (λ k. run_served disk_of k (slice_get disks k) (slice_get run.ends.desks.items k) (slice_get begun.desk_states k) (slice_get done.after.desk_states k) (disks_then k))
            (sym (lists_long done.after.desk_states) ∙ done.stands.left.desks ∙ done.stands.one_each) done.grown.0 done.grown.1
            (λ vouched all. (done.stands.stands vouched all).steps) (λ vouched all. IfSome_then done.after.in_doubt (done.stands.in_doubt vouched all) (λ edition is. is.1.steps));
        leaves = record left { grown = grown };
      }

  -- what closing leaves of a run that found a desk with commands
  pub record IsHeld (before : SessionEnds S K C) (run : RunEnd D G S K O C) (desk held : ℕ) (closed : InstanceValue D O) : Type 0 where
    pub handed_back : IsHandedBack run closed
    pub sessions : run.sessions.items ≡ before ∷ []
    pub kept : run.kept ≡ nothing_kept
    pub status : run.status ≡ 3
    pub fault : run.fault ≡ Some (run_faults.NotEmpty desk held)

  pub finds_held : RunLaws → (site : Bases) (random : List ℕ) (ends : Ends D G O) (before : SessionEnds S K C) (desk held : ℕ) (run : RunEnd D G S K O C) (started : Started D G O)
      → IsStarted disk_of state_of outlet_of site (session_of random) ends started
      → ((state : InstanceState) → IsInState outlet_of started.instance state → IsFirstHeld state.desk_states (Some (desk, held)))
      → IsHeld before run desk held started.instance → FindsHeld disk_of state_of outlet_of site random ends before run
  finds_held laws site random ends before desk held run started begins holds is =
      let disks = ends.desks.items in
      let instance : InstanceValue D O = started.instance in
      let found = desks_closed_again disk_of disks instance.desks run.ends.desks.items begins.desks is.handed_back.desks in
      let at : IsStartedIn disk_of state_of outlet_of site (session_of random) ends started found.0 = begins.each found.0 found.1 in
      record {
        opened = at.opened;
        begun = at.begun;
        summary = started.summary;
        desk = desk;
        held = held;
        holds = holds at.begun at.stands;
        untouched = is.sessions;
        kept = is.kept;
        status = is.status;
        fault = is.fault;
        opens = at.opens;
        leaves = leaves_found laws site random ends run started found.0 at (subst (λ (b : DeskStates). AreServed disk_of disks run.ends.desks.items b b) (sym at.same) found.2) is.handed_back;
      }

  -- what closing leaves of a run that served no session
  pub record IsUnserved (before : List (SessionEnds S K C)) (run : RunEnd D G S K O C) (closed : InstanceValue D O) : Type 0 where
    pub handed_back : IsHandedBack run closed
    pub sessions : run.sessions.items ≡ before
    pub kept : run.kept ≡ nothing_kept
    pub status : run.status ≡ 6
    pub fault : run.fault ≡ Some run_faults.Memory

  pub serves_none : RunLaws → (site : Bases) (random : List ℕ) (ends : Ends D G O) (before : List (SessionEnds S K C)) (run : RunEnd D G S K O C) (started : Started D G O)
      → IsStarted disk_of state_of outlet_of site (session_of random) ends started
      → IsUnserved before run started.instance → ServesNone disk_of state_of outlet_of site random ends before run
  serves_none laws site random ends before run started begins is =
      let disks = ends.desks.items in
      let instance : InstanceValue D O = started.instance in
      let found = desks_closed_again disk_of disks instance.desks run.ends.desks.items begins.desks is.handed_back.desks in
      let at : IsStartedIn disk_of state_of outlet_of site (session_of random) ends started found.0 = begins.each found.0 found.1 in
      record {
        opened = at.opened;
        begun = at.begun;
        summary = started.summary;
        untouched = is.sessions;
        kept = is.kept;
        status = is.status;
        fault = is.fault;
        opens = at.opens;
        leaves = leaves_found laws site random ends run started found.0 at (subst (λ (b : DeskStates). AreServed disk_of disks run.ends.desks.items b b) (sym at.same) found.2) is.handed_back;
      }

  -- what closing leaves of a run that told
  pub record IsTold (before after : SessionEnds S K C) (run : RunEnd D G S K O C) (line : List ℕ) (closed : InstanceValue D O) : Type 0 where
    pub desks : AreClosed disk_of closed.desks run.ends.desks.items
    pub press : run.ends.press ≡ closed.journal.disk
    pub safe : IsSafeJournal disk_of closed.journal
    pub signers : map state_of run.ends.signers.items ≡ closed.press.ring
    pub outlet : run.ends.outlet ≡ closed.outlet
    pub sessions : run.sessions.items ≡ after ∷ []
    pub kept : run.kept ≡ nothing_kept
    pub status : run.status ≡ run_status run.fault
    pub source : after.source ≡ before.source
    pub clock : after.clock ≡ before.clock
    pub tells : Tells sink_of line run.fault before.sink after.sink

  pub tells_one : RunLaws → (site : Bases) (random : List ℕ) (ends : Ends D G O) (before after : SessionEnds S K C) (run : RunEnd D G S K O C) (started : Started D G O)
      → IsStarted disk_of state_of outlet_of site (session_of random) ends started → IsTold before after run (summary_line started.summary) started.instance
      → TellsOne disk_of state_of outlet_of sink_of site random ends before run
  tells_one laws site random ends before after run started begins is =
      let disks = ends.desks.items in
      let instance : InstanceValue D O = started.instance in
      let found = desks_closed_again disk_of disks instance.desks run.ends.desks.items begins.desks is.desks in
      let at : IsStartedIn disk_of state_of outlet_of site (session_of random) ends started found.0 = begins.each found.0 found.1 in
      record {
        after = after;
        opened = at.opened;
        begun = at.begun;
        summary = started.summary;
        handed_back = is.sessions;
        kept = is.kept;
        status = is.status;
        same_source = is.source;
        same_clock = is.clock;
        opens = at.opens;
        tells = is.tells;
        leaves = leaves_found laws site random ends run started found.0 at (subst (λ (b : DeskStates). AreServed disk_of disks run.ends.desks.items b b) (sym at.same) found.2)
            (record { desks = is.desks; press = is.press; safe = is.safe; signers = is.signers; outlet = is.outlet });
      }
