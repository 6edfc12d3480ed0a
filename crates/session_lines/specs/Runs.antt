-- What a run of sessions over one store comes to.
use Rattle.std.specs.Prelude.{◌≡◌, ◌⊎◌, ◌≤◌, ⊤, ℕ, List, [], ◌∷◌, All, Some, length}
use mathlib.Core.List.{IsPrefix}
use Rattle.host_calls.specs.Rise.{HasRisen}
use Rattle.disk_api.specs.declared.disk.Disk.{Ghosts as DiskGhosts}
use Rattle.outlet_api.specs.declared.outlet.Outlet.{Ghosts as OutletGhosts}
use Rattle.line_loop.specs.declared.traits.Source.{Ghosts as SourceGhosts}
use Rattle.line_loop.specs.declared.traits.Sink.{Ghosts as SinkGhosts}
use Rattle.line_loop.specs.declared.traits.Clock.{Ghosts as ClockGhosts}
use Rattle.line_loop.specs.declared.session.SessionEnd.{SessionEnd}
use Rattle.line_loop.specs.declared.session.SessionEnd.TheVariants.{SourceFault, SinkFault}
use Rattle.desk_core.specs.View.{View}
use Rattle.notice_board.specs.declared.shown.ShownEdition.{ShownEdition}
use Rattle.manager.specs.Named.{Named}
use Rattle.manager.specs.Passes.{PassValue, IsSplitOff}
use Rattle.manager.specs.Starting.{IsFirstPass}
use Rattle.manager.specs.Sharing.{pass_at, AreShared}
use Rattle.manager.specs.Ended.{AreLeftDesks}
use Rattle.manager.specs.Ends.{AreEnds}
use Rattle.manager.specs.Risen.{AreRisenDesks}
use Rattle.manager.specs.Limits.{AreWithinLimit}
use Rattle.session_lines.specs.Keeping.{KeptValue, nothing_kept}
use Rattle.session_lines.specs.Replies.{SessionState}
use Rattle.session_lines.specs.Sessions.{Streams, Converses}
use Rattle.session_lines.specs.declared.running.SessionEnds.{SessionEnds}
use Rattle.session_lines.specs.declared.running.SessionOutcome.{SessionOutcome}
use Rattle.session_lines.specs.declared.running.ServedStore.{ServedStore}

-- ---- a session

abbrev pub streams_in : {S K C : Type 0} → SessionEnds S K C → Streams S K
streams_in ends = record { source = ends.source; sink = ends.sink }

-- What a session has with this pass, its ends and what it kept.
abbrev pub state_with : {S K C : Type 0} → ClockGhosts C → PassValue → SessionEnds S K C
    → KeptValue → SessionState
state_with clock_of pass ends kept =
    record { pass = pass; clock = clock_of.readings ends.clock; kept = kept }

-- It was served between its ends: the pass that it was given became the one that is left. At first
-- nothing was kept. Its ends' counts of faults never fell.
pub record IsServedWith {D O S K C : Type 0} (disk_of : DiskGhosts D) (signers : ℕ)
    (source_of : SourceGhosts S) (sink_of : SinkGhosts K) (clock_of : ClockGhosts C)
    (given left : PassValue) (old new : SessionEnds S K C) (outcome : SessionOutcome D O)
    : Type 0 where
  pub end : SessionEnd
  pub ended : outcome.ended ≡ Some end
  pub session : Converses O disk_of signers source_of sink_of (streams_in old) (streams_in new) end
      (state_with clock_of given old nothing_kept) (state_with clock_of left new outcome.kept)
  pub source_fault : end ≡ SourceFault
      → HasRisen (source_of.fault_count old.source) (source_of.fault_count new.source)
  pub sink_fault : end ≡ SinkFault
      → HasRisen (sink_of.fault_count old.sink) (sink_of.fault_count new.sink)
  pub source_later : source_of.fault_count old.source ≤ source_of.fault_count new.source
  pub sink_later : sink_of.fault_count old.sink ≤ sink_of.fault_count new.sink

-- So was each of them, in their order, each with a pass of its own.
abbrev pub AreServedWith : {D O S K C : Type 0} → DiskGhosts D → ℕ → SourceGhosts S → SinkGhosts K
    → ClockGhosts C → List PassValue → List PassValue → List (SessionEnds S K C)
    → List (SessionEnds S K C) → List (SessionOutcome D O) → Type 0
AreServedWith disk_of signers source_of sink_of clock_of [] [] [] [] [] = ⊤
AreServedWith disk_of signers source_of sink_of clock_of (given ∷ more) (left ∷ others)
    (old ∷ olds) (new ∷ news) (outcome ∷ outcomes) =
    IsServedWith disk_of signers source_of sink_of clock_of given left old new outcome
    × AreServedWith disk_of signers source_of sink_of clock_of more others olds news outcomes
AreServedWith disk_of signers source_of sink_of clock_of given left olds news outcomes = ⊥

-- ---- a store

-- Each session was served with a pass that was split off the first one.
pub record AllServed {D O S K C : Type 0} (disk_of : DiskGhosts D) (signers : ℕ)
    (source_of : SourceGhosts S) (sink_of : SinkGhosts K) (clock_of : ClockGhosts C)
    (first : PassValue) (left : List PassValue) (old new : List (SessionEnds S K C))
    (outcomes : List (SessionOutcome D O)) : Type 0 where
  pub given : List PassValue
  pub split : All (IsSplitOff first) given
  pub served : AreServedWith disk_of signers source_of sink_of clock_of given left old new outcomes

-- There was no memory for their passes: none was served, and their ends are as they were.
pub record NoneServed {D O S K C : Type 0} (left : List PassValue)
    (old new : List (SessionEnds S K C)) (outcomes : List (SessionOutcome D O)) : Type 0 where
  pub no_pass : left ≡ []
  pub same : new ≡ old
  pub none : outcomes ≡ []

-- The sessions were served, or none was. The first pass knew what was found, and made nothing; so
-- each command that a desk accepted in the run was given in one of the sessions. The desks, the
-- press's disk and the outlet are those of a store that was closed; a desk is shut only by a fault of its
-- disk in this run, and just where the record of a command that may stand next is in doubt.
pub record IsRun {D G O S K C : Type 0} (disk_of : DiskGhosts D) (outlet_of : OutletGhosts O)
    (source_of : SourceGhosts S) (sink_of : SinkGhosts K) (clock_of : ClockGhosts C)
    (named : Named) (shown : List ShownEdition) (old new : List (SessionEnds S K C)) (desks : List (View D))
    (run : ServedStore D G O) : Type 0 where
  pub first : PassValue
  pub is_first : IsFirstPass named first
  pub first_shown : first.shown ≡ shown
  pub left : List PassValue
  pub sessions : AllServed disk_of (length named.signers) source_of sink_of clock_of first left
      old new run.outcomes.items ⊎ NoneServed left old new run.outcomes.items
  pub places : ℕ
  pub shared : AreShared (record first { places = places } ∷ left) desks
  pub kept : AreLeftDesks (length named.signers) desks
  pub faults : AreRisenDesks disk_of named desks
  pub limits : AreWithinLimit named desks
  pub viewed : List ShownEdition
  pub seen : (number : ℕ)
      → IsPrefix (pass_at (record first { places = places } ∷ left) number).shown viewed
  pub ends : AreEnds disk_of outlet_of named viewed desks run.store.disk run.store.ring
      run.store.outlet run.store.repeated
