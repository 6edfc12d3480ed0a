-- A run over several sessions, from the instance that was started to what is handed back.
use Rattle.std.proofs.Common.{◌≡◌, ℕ, zero, suc, Bool, true, List, [], ◌∷◌, map, length, refl, sym, ap, ◌∙◌, subst, arith}
use Rattle.std.specs.Prelude.{◌⊎◌, Option, None, Some, Result, Ok, Err, All, not, slice_get}
use Rattle.std.proofs.lemmas.List.{length-map}
use Rattle.disk_api.specs.declared.disk.Disk.{Ghosts as DiskGhosts}
use Rattle.outlet_api.specs.declared.outlet.Outlet.{Ghosts as OutletGhosts}
use Rattle.outlet_api.specs.declared.exports.ExportFault.{ExportFault}
use Rattle.outlet_api.specs.declared.exports.ExportFault.TheVariants as export
use Rattle.line_loop.specs.declared.traits.Source.{Ghosts as SourceGhosts}
use Rattle.line_loop.specs.declared.traits.Sink.{Ghosts as SinkGhosts}
use Rattle.line_loop.specs.declared.traits.Clock.{Ghosts as ClockGhosts}
use Rattle.signer_api.specs.State.{SignerState}
use Rattle.key_ids.specs.Uris.{Bases}
use Rattle.desk_core.specs.View.{View}
use Rattle.desk_core.specs.Counted.{CountedView}
use Rattle.notice_board.specs.Seats.{BoardSeat}
use Rattle.manager.specs.Passes.{PassValue}
use Rattle.manager.specs.Ready.{desk_in, IsReady}
use Rattle.manager.specs.Resumed.{IsResumed}
use Rattle.manager.specs.Run.{editions_of, shown_at}
use Rattle.manager.specs.Starting.{AreCounted}
use Rattle.session_lines.specs.declared.running.SessionEnds.{SessionEnds}
use Rattle.krill_top.specs.declared.ends.Ends.{Ends}
use Rattle.krill_top.specs.declared.faults.RunFault.{RunFault}
use Rattle.krill_top.specs.declared.faults.RunFault.TheVariants as faults
use Rattle.krill_top.specs.declared.running.RunEnd.{RunEnd}
use Rattle.krill_top.specs.declared.starting.Started.{Started}
use Rattle.krill_top.specs.DeskStates.{DeskStates, most_desks}
use Rattle.krill_top.specs.InstanceState.{InstanceState, outlet_state, lists_of, is_exported}
use Rattle.krill_top.specs.PressDisk.{IsPressServed}
use Rattle.krill_top.specs.Session.{session_of}
use Rattle.krill_top.specs.SharedRuns.{AreAllServed, IsNoneServed, Closes, ServesAll}
use Rattle.krill_top.specs.Statuses.{export_fault, graver, run_status}
use Rattle.krill_top.specs.inner.Instances.{InstanceValue, stored_in}
use Rattle.krill_top.specs.inner.Shared.{IsServedRun, worst_of}
use Rattle.krill_top.specs.inner.Started.{IsResumedIn, IsStarted, IsStartedIn}
use Rattle.krill_top.proofs.Closing.{coherent_begun, repeats_same}
use Rattle.krill_top.proofs.RunHistories.{run_at, goes_on}
use Rattle.krill_top.proofs.Lists.{as_many, lists_long}
use Rattle.krill_top.proofs.ManyServed as ended
use Rattle.krill_top.proofs.OutOfLocks.{ComesOut, comes_out}
use Rattle.krill_top.proofs.PressServed.{room_unknown}
use Rattle.krill_top.proofs.Crashes.{reopened}
use Rattle.krill_top.proofs.Served.{OpenedAt, found_first, opened_seen, opened_seen_at}
use Rattle.krill_top.proofs.ServedAll as all

-- ---- a store that was made ready

pub desks_of : {D : Type 0} (views : List (View D)) (opened : List (CountedView D)) → AreCounted views opened → map desk_in opened ≡ views
desks_of [] [] are = refl
desks_of [] (one ∷ opened) are = absurd are
desks_of (view ∷ views) [] are = absurd are
desks_of (view ∷ views) (one ∷ opened) are = λ i. are.0.desk_is i ∷ desks_of views opened are.1 i

recovered_all : {D : Type 0} (views : List (View D)) (opened : List (CountedView D)) → AreCounted views opened → All (λ (counted : CountedView D). counted.recovered ≡ length counted.desk.records) opened
recovered_all {D} views [] are k d within = absurd (omega (arith, within))
recovered_all {D} [] (one ∷ opened) are k d within = absurd are
recovered_all {D} (view ∷ views) (one ∷ opened) are zero d within = are.0.recovered ∙ ap (λ (v : View D). length v.records) (sym are.0.desk_is)
recovered_all {D} (view ∷ views) (one ∷ opened) are (suc k) d within = recovered_all views opened are.1 k d (omega (arith, within))

pub ready_in : {D O : Type 0} (outlet_of : OutletGhosts O) (instance : InstanceValue D O) (begun : InstanceState) → IsResumedIn outlet_of instance begun → (opened : List (CountedView D)) → AreCounted instance.desks opened
    → (board : BoardSeat) → board.shown ≡ shown_at instance.press.at ∷ [] → IsReady outlet_of opened (stored_in instance) board instance.outlet
ready_in {D} outlet_of instance begun resumed opened counted board shown = record {
  first = resumed.first;
  resumed = subst (λ (v : List (View D)). IsResumed v resumed.first) (sym (desks_of instance.desks opened counted)) resumed.is;
  press = resumed.press;
  recovered = recovered_all instance.desks opened counted;
  shown = shown;
  shows = resumed.shows;
}

pub started_resumed : {D G O : Type 0} (disk_of : DiskGhosts D) (state_of : G → SignerState) (outlet_of : OutletGhosts O) (site : Bases) (session : List ℕ) (ends : Ends D G O) (started : Started D G O)
    → IsStarted disk_of state_of outlet_of site session ends started → (begun : InstanceState) × IsResumedIn outlet_of started.instance begun
started_resumed disk_of state_of outlet_of site session ends started begins =
    let found = opened_seen disk_of ends.desks.items started.instance.desks begins.desks in
    let at = begins.each found.0 found.1 in
    (at.begun, at.resumed)

-- ---- the run

-- what ends badly isn't 0
some_bad : (worst : Option RunFault) → run_status (graver worst (Some faults.Device)) ≡ 0 → ⊥
some_bad None e = omega (arith, e)
some_bad (Some faults.Words) e = omega (arith, e)
some_bad (Some (faults.Base fault)) e = omega (arith, e)
some_bad (Some (faults.Refused fault)) e = omega (arith, e)
some_bad (Some (faults.NotEmpty desk held)) e = omega (arith, e)
some_bad (Some faults.Device) e = omega (arith, e)
some_bad (Some (faults.Spent bytes)) e = omega (arith, e)
some_bad (Some faults.Memory) e = omega (arith, e)

some_wanting : (worst : Option RunFault) → run_status (graver worst (Some faults.Memory)) ≡ 0 → ⊥
some_wanting None e = omega (arith, e)
some_wanting (Some faults.Words) e = omega (arith, e)
some_wanting (Some (faults.Base fault)) e = omega (arith, e)
some_wanting (Some (faults.Refused fault)) e = omega (arith, e)
some_wanting (Some (faults.NotEmpty desk held)) e = omega (arith, e)
some_wanting (Some faults.Device) e = omega (arith, e)
some_wanting (Some (faults.Spent bytes)) e = omega (arith, e)
some_wanting (Some faults.Memory) e = omega (arith, e)

well_closed : {O : Type 0} (worst : Option RunFault) (closing : Result Bool (ExportFault O)) (begun ended : InstanceState) → Closes closing begun ended
    → run_status (graver worst (export_fault closing)) ≡ 0 → is_exported ended ≡ true
well_closed worst (Ok told) begun ended closes well = closes
well_closed worst (Err (export.OutletFault rose)) begun ended closes well = absurd (some_bad worst well)
well_closed worst (Err export.Memory) begun ended closes well = absurd (some_wanting worst well)

module _ {D G S K O C : Type 0} (disk_of : DiskGhosts D) (state_of : G → SignerState) (outlet_of : OutletGhosts O) (source_of : SourceGhosts S) (sink_of : SinkGhosts K) (clock_of : ClockGhosts C)
    (laws : ended.Laws disk_of outlet_of) (stay : all.StayPublished) (makes : all.MakesLaw O disk_of source_of sink_of)
    (site : Bases) (random : List ℕ) (ends : Ends D G O) (before : List (SessionEnds S K C)) (run : RunEnd D G S K O C) (started : Started D G O) where
  pub serves_all : IsStarted disk_of state_of outlet_of site (session_of random) ends started → (opened : List (CountedView D)) → AreCounted started.instance.desks opened
      → (board : BoardSeat) → board.shown ≡ shown_at started.instance.press.at ∷ []
      → IsServedRun disk_of state_of outlet_of source_of sink_of clock_of (ended.named_in disk_of outlet_of started.instance opened board) board.shown before run
      → ServesAll disk_of state_of outlet_of source_of sink_of clock_of site random ends before run
  serves_all begins opened counted board shown is =
      let instance : InstanceValue D O = started.instance in
      let disks = ends.desks.items in
      let found = opened_seen disk_of disks instance.desks begins.desks in
      let at : IsStartedIn disk_of state_of outlet_of site (session_of random) ends started found.0 = begins.each found.0 found.1 in
      let begun : InstanceState = at.begun in
      let at_first = found_first at.opened begun at.opens.just.lists at.opens.just.editions (repeats_same {O = O} (Ok (not (is_exported at.opened))) at.opened begun at.opens.exported) in
      let just : begun.found.lists ≡ lists_of begun.desk_states = at_first.0 in
      let just_editions : begun.found.editions ≡ begun.editions = at_first.1 in
      let same_desks = desks_of instance.desks opened counted in
      let store = is.served.store in
      let many : length is.desks ≡ most_desks = is.is.shared.count ∙ is.is.is_first.count in
      let run_ends = is.is.ends in
      let named = ended.named_in disk_of outlet_of instance opened board in
      let long : length opened ≡ length is.desks = sym (length-map opened desk_in) ∙ ap length same_desks ∙ as_many instance.desks begun.desk_states at.stands.desks
      ∙ sym (lists_long begun.desk_states) ∙ at.stands.left.desks ∙ at.stands.one_each ∙ sym many in
      let out : ComesOut disk_of outlet_of named instance.desks instance.journal.disk instance.outlet is.is.viewed is.desks store.disk store.ring store.outlet store.repeated run_ends =
      comes_out disk_of outlet_of named opened instance.desks same_desks instance.journal.disk instance.outlet is.is.viewed is.desks store.disk store.ring store.outlet store.repeated run_ends
      refl refl refl (length named.signers) _ is.is.shared is.is.kept is.is.faults is.is.limits long in
      let last : InstanceState = ended.ended disk_of outlet_of laws instance begun at.stands at.resumed just just_editions opened same_desks board is.is.viewed is.desks many store.disk store.ring store.outlet store.repeated run_ends out in
      let coherent = ended.coherent disk_of outlet_of laws instance begun at.stands at.resumed just just_editions opened same_desks board is.is.viewed is.desks many store.disk store.ring store.outlet store.repeated run_ends out in
      let shows = ended.shown disk_of outlet_of laws instance begun at.stands at.resumed just just_editions opened same_desks board is.is.viewed is.desks many store.disk store.ring store.outlet store.repeated run_ends out in
      let closes = ended.closes disk_of outlet_of laws instance begun at.stands at.resumed just just_editions opened same_desks board is.is.viewed is.desks many store.disk store.ring store.outlet store.repeated run_ends out in
      let worst : Option RunFault = worst_of (length before) is.served.outcomes.items in
      let status : run.status ≡ run_status (graver worst (export_fault store.repeated)) = is.status ∙ ap run_status is.fault in
      let first : PassValue = record is.is.first { places = is.is.places } in
      let signers : length instance.press.ring ≡ length begun.signers = ap length at.stands.ring in
      let kept = all.kept disk_of outlet_of laws instance begun at.stands at.resumed just just_editions opened same_desks board shown is.is.viewed is.desks many store.disk store.ring store.outlet store.repeated run_ends out
      is.is.first is.is.is_first is.is.first_shown is.is.places is.is.left is.is.shared is.is.seen disks run.ends.desks.items begins.desks
      (λ n. subst (λ (b : DeskStates). OpenedAt disk_of n (slice_get disks n) (slice_get instance.desks n) (slice_get b n)) (sym at.same)
      (opened_seen_at disk_of disks instance.desks begins.desks n)) is.closed in
      let press : IsPressServed disk_of (session_of random) ends.press run.ends.press begun last =
      all.press disk_of outlet_of laws instance begun at.stands at.resumed just just_editions opened same_desks board shown is.is.viewed is.desks many store.disk store.ring store.outlet store.repeated run_ends out
      is.is.first is.is.is_first is.is.first_shown is.is.places is.is.left is.is.shared is.is.seen (session_of random) ends.press run.ends.press at.press is.press in
      record {
        opened = at.opened;
        begun = begun;
        ended = last;
        summary = started.summary;
        opens = at.opens;
        first = first;
        knows = all.knows disk_of outlet_of laws instance begun at.stands at.resumed just just_editions opened same_desks board shown is.is.viewed is.desks many store.disk store.ring store.outlet store.repeated run_ends out
            is.is.first is.is.is_first is.is.first_shown is.is.places is.is.left is.is.shared is.is.seen;
        left = is.is.left;
        outcomes = is.served.outcomes.items;
        worst = worst;
        sessions = subst (λ (n : ℕ). AreAllServed disk_of n source_of sink_of clock_of first is.is.left before run.sessions.items is.served.outcomes.items worst ⊎ IsNoneServed is.is.left before run.sessions.items is.served.outcomes.items worst) signers
            (all.sessions_so disk_of source_of sink_of clock_of makes (length instance.press.ring) is.is.first is.is.places is.is.left before run.sessions.items is.served.outcomes.items is.is.sessions);
        kept = is.kept;
        closing = store.repeated;
        closes = closes;
        status = status;
        fault = is.fault;
        shares = all.shares disk_of outlet_of laws instance begun at.stands at.resumed just just_editions opened same_desks board shown is.is.viewed is.desks many store.disk store.ring store.outlet store.repeated run_ends out
            is.is.first is.is.is_first is.is.first_shown is.is.places is.is.left is.is.shared is.is.seen;
        disks = kept;
        crash = λ images image may. reopened laws.run disk_of disks run.ends.desks.items (session_of random) ends.press run.ends.press begun last kept press
            (sym (as_many is.desks out.states out.are) ∙ many) images image may;
        leaves = record {
          press = press;
          same_site = at.stands.site;
          same_session = at.stands.session;
          same_found = refl;
          grown = (editions_of run_ends.closed.is.run, refl);
          steps = ended.steps disk_of outlet_of laws instance begun at.stands at.resumed just just_editions opened same_desks board is.is.viewed is.desks many store.disk store.ring store.outlet store.repeated run_ends out;
          doubt = ended.doubt disk_of outlet_of laws instance begun at.stands at.resumed just just_editions opened same_desks board is.is.viewed is.desks many store.disk store.ring store.outlet store.repeated run_ends out;
          vouch = ended.vouch disk_of outlet_of laws instance begun at.stands at.resumed just just_editions opened same_desks board is.is.viewed is.desks many store.disk store.ring store.outlet store.repeated run_ends out;
          signers_ended = is.signers ∙ run_ends.ring_is;
          outlet_ended = ap (outlet_state outlet_of) (is.outlet ∙ run_ends.outlet_is);
          coherent = λ was. coherent (at.coherent was);
          coherent_then = λ some. coherent (coherent_begun outlet_of instance at.opened begun at.stands at.opens.just.exported at.opens.exported some);
          shown = shows;
          well = λ zero. shows (well_closed worst store.repeated begun last closes (sym status ∙ zero));
        };
        cuts = all.cuts disk_of outlet_of laws instance begun at.stands at.resumed just just_editions opened same_desks board shown is.is.viewed is.desks many store.disk store.ring store.outlet store.repeated run_ends out
            is.is.first is.is.is_first is.is.first_shown is.is.places is.is.left is.is.shared is.is.seen;
        keeps = ended.keeps disk_of outlet_of laws instance begun at.stands at.resumed just just_editions opened same_desks board is.is.viewed is.desks many store.disk store.ring store.outlet store.repeated run_ends out;
        found_cuts = all.found_cuts disk_of outlet_of laws instance begun at.stands at.resumed just just_editions opened same_desks board shown is.is.viewed is.desks many store.disk store.ring store.outlet store.repeated run_ends out
            is.is.first is.is.is_first is.is.first_shown is.is.places is.is.left is.is.shared is.is.seen;
        published = all.published disk_of outlet_of laws instance begun at.stands at.resumed just just_editions opened same_desks board shown is.is.viewed is.desks many store.disk store.ring store.outlet store.repeated run_ends out
            is.is.first is.is.is_first is.is.first_shown is.is.places is.is.left is.is.shared is.is.seen stay;
        goes_on = λ room history find. goes_on laws.run history begun last at.stands.site refl just just_editions find
            (all.has_room disk_of outlet_of laws instance begun at.stands at.resumed just just_editions opened same_desks board shown is.is.viewed is.desks many store.disk store.ring store.outlet store.repeated run_ends out
            is.is.first is.is.is_first is.is.first_shown is.is.places is.is.left is.is.shared is.is.seen history find
            (room_unknown disk_of (session_of random) ends.press run.ends.press begun last press room))
            (λ k. run_at disk_of k (slice_get disks k) (slice_get run.ends.desks.items k) (slice_get begun.desk_states k) (slice_get out.states k) (kept k))
            (sym (as_many is.desks out.states out.are) ∙ many) (editions_of run_ends.closed.is.run) refl
            (ended.steps disk_of outlet_of laws instance begun at.stands at.resumed just just_editions opened same_desks board is.is.viewed is.desks many store.disk store.ring store.outlet store.repeated run_ends out)
            (ended.doubt disk_of outlet_of laws instance begun at.stands at.resumed just just_editions opened same_desks board is.is.viewed is.desks many store.disk store.ring store.outlet store.repeated run_ends out);
      }
