-- Several sessions over a store that was made ready, and what is handed back.
use Rattle.std.specs.Prelude.{◌≡◌, ◌⊎◌, ◌+◌, ◌≤◌, ℕ, nat_lt, List, [], All, None, Option, Some, if◌then◌else◌, length, map, vec_capacity}
use Rattle.disk_api.specs.declared.disk.Disk.{Ghosts as DiskGhosts}
use Rattle.outlet_api.specs.declared.outlet.Outlet.{Ghosts as OutletGhosts}
use Rattle.line_loop.specs.declared.traits.Source.{Ghosts as SourceGhosts}
use Rattle.line_loop.specs.declared.traits.Sink.{Ghosts as SinkGhosts}
use Rattle.line_loop.specs.declared.traits.Clock.{Ghosts as ClockGhosts}
use Rattle.signer_api.specs.State.{SignerState}
use Rattle.gate_journal.specs.View.{IsSafe}
use Rattle.desk_core.specs.View.{View}
use Rattle.notice_board.specs.Seats.{viewer_seat}
use Rattle.notice_board.specs.declared.shown.ShownEdition.{ShownEdition}
use Rattle.press_core.specs.Stored.{StoredValue}
use Rattle.manager.specs.Named.{Named}
use Rattle.manager.specs.Ready.{desk_in, named_of, IsReady}
use Rattle.manager.specs.Starting.{first_places}
use Rattle.manager.specs.declared.ready_store.ReadyStore.{ReadyStore}
use Rattle.session_lines.specs.Keeping.{nothing_kept}
use Rattle.session_lines.specs.Runs.{IsRun}
use Rattle.session_lines.specs.declared.running.ServedStore.{ServedStore}
use Rattle.session_lines.specs.declared.running.SessionEnds.{SessionEnds}
use Rattle.session_lines.specs.declared.running.SessionOutcome.{SessionOutcome}
use Rattle.krill_top.specs.declared.faults.RunFault.{RunFault}
use Rattle.krill_top.specs.declared.faults.RunFault.TheVariants as faults
use Rattle.krill_top.specs.declared.running.RunEnd.{RunEnd}
use Rattle.krill_top.specs.DeskStates.{most_desks}
use Rattle.krill_top.specs.SharedRuns.{gravest_from, kept_from}
use Rattle.krill_top.specs.Statuses.{export_fault, graver, run_status}
use Rattle.krill_top.specs.inner.Opened.{AreClosed}

-- It can be put behind its locks, for up to eight sessions, and there is room for its desks.
pub record IsShareable {D G O : Type 0} (outlet_of : OutletGhosts O) (ready : ReadyStore D G O)
    (signers : ℕ) : Type 0 where
  pub is : IsReady outlet_of ready.opened.desks.items ready.opened.press ready.opened.board ready.opened.outlet
  pub counted : signers ≡ length ready.opened.press.press.ring
  pub many : length ready.viewers.items ≡ first_places + 1
  pub viewers : All (λ viewer. viewer ≡ viewer_seat ready.opened.board) ready.viewers.items
  pub empty : ready.room.items ≡ []
  pub room : most_desks ≤ vec_capacity ready.room

-- Why sessions ended that came to these outcomes. Where there are fewer outcomes than sessions, none was
-- served.
abbrev pub worst_of : {D O : Type 0} → ℕ → List (SessionOutcome D O) → Option RunFault
worst_of sessions outcomes =
    if nat_lt (length outcomes) sessions then Some faults.Memory else gravest_from None outcomes

-- All was put behind locks, the sessions were served, and what came out of the locks is handed back.
pub record IsServedRun {D G S K O C : Type 0} (disk_of : DiskGhosts D) (state_of : G → SignerState)
    (outlet_of : OutletGhosts O) (source_of : SourceGhosts S) (sink_of : SinkGhosts K)
    (clock_of : ClockGhosts C) (named : Named) (shown : List ShownEdition)
    (before : List (SessionEnds S K C)) (run : RunEnd D G S K O C) : Type 0 where
  pub served : ServedStore D G O
  pub desks : List (View D)
  pub is : IsRun disk_of outlet_of source_of sink_of clock_of named shown before run.sessions.items
      desks served
  pub closed : AreClosed disk_of desks run.ends.desks.items
  pub press : run.ends.press ≡ served.store.disk
  pub signers : map state_of run.ends.signers.items ≡ served.store.ring
  pub outlet : run.ends.outlet ≡ served.store.outlet
  pub kept : run.kept ≡ kept_from nothing_kept served.outcomes.items
  pub fault : run.fault ≡ graver (worst_of (length before) served.outcomes.items)
      (export_fault served.store.repeated)
  pub status : run.status ≡ run_status run.fault

-- There was no memory for that: all is handed back as it was, and no session was served.
pub record IsUnservedRun {D G S K O C : Type 0} (disk_of : DiskGhosts D) (state_of : G → SignerState)
    (desks : List (View D)) (stored : StoredValue D) (outlet : O) (before : List (SessionEnds S K C))
    (run : RunEnd D G S K O C) : Type 0 where
  pub closed : AreClosed disk_of desks run.ends.desks.items
  pub press : run.ends.press ≡ stored.journal.disk
  pub safe : IsSafe disk_of stored.journal
  pub signers : map state_of run.ends.signers.items ≡ stored.press.ring
  pub outlet_is : run.ends.outlet ≡ outlet
  pub untouched : run.sessions.items ≡ before
  pub kept : run.kept ≡ nothing_kept
  pub fault : run.fault ≡ Some faults.Memory
  pub status : run.status ≡ run_status run.fault

-- The one, or the other.
abbrev pub RunsReady : {D G S K O C : Type 0} → DiskGhosts D → (G → SignerState) → OutletGhosts O
    → SourceGhosts S → SinkGhosts K → ClockGhosts C → ReadyStore D G O
    → List (SessionEnds S K C) → RunEnd D G S K O C → Type 0
RunsReady disk_of state_of outlet_of source_of sink_of clock_of ready before run =
    IsServedRun disk_of state_of outlet_of source_of sink_of clock_of
    (named_of disk_of outlet_of ready.opened.desks.items ready.opened.press ready.opened.board ready.opened.outlet)
    ready.opened.board.shown before run
    ⊎ IsUnservedRun disk_of state_of (map desk_in ready.opened.desks.items) ready.opened.press
    ready.opened.outlet before run
