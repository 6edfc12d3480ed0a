-- What a session does from one state on.
use Rattle.std.specs.Prelude.{◌≡◌, ◌≤◌, ℕ, List, Some}
use Rattle.std.specs.Io.KnownBytes.{Consumes, Appends, IsAtEnd}
use Rattle.disk_api.specs.declared.disk.Disk.{Ghosts as DiskGhosts}
use Rattle.line_loop.specs.declared.traits.Source.{Ghosts as SourceGhosts}
use Rattle.line_loop.specs.declared.traits.Sink.{Ghosts as SinkGhosts}
use Rattle.line_loop.specs.declared.traits.Clock.{Ghosts as ClockGhosts}
use Rattle.line_loop.specs.Session.{Serves}
use Rattle.line_loop.specs.declared.session.SessionEnd.{SessionEnd}
use Rattle.line_loop.specs.declared.session.SessionEnd.TheVariants.{SourceFault, SinkFault}
use Rattle.host_calls.specs.Rise.{HasRisen}
use Rattle.session_lines.specs.declared.serving.ServedSession.{ServedSession}
use Rattle.session_lines.specs.declared.handler.Handler.{Handler}
use Rattle.session_lines.specs.Replies.{SessionState, IsReply}

-- What a handler has, as its session's contracts see it.
abbrev pub state_of : {N D O C : Type 0} → ClockGhosts C → Handler N D O C → SessionState
state_of clock_of handler =
    record { pass = handler.pass; clock = clock_of.readings handler.clock; kept = handler.kept }

-- The ends of a session, but for its clock.
pub record Streams (S K : Type 0) : Type 0 where
  pub source : S
  pub sink : K

abbrev pub streams_of : {N D O S K C : Type 0} → ServedSession N D O S K C → Streams S K
streams_of session = record { source = session.source; sink = session.sink }

-- The source gave these bytes, and the sink took the replies to their lines, as far as the
-- session's end says, while the one state became the other.
pub record Converses {D S K : Type 0} (O : Type 0) (disk_of : DiskGhosts D) (signers : ℕ)
    (source_of : SourceGhosts S) (sink_of : SinkGhosts K) (old new : Streams S K)
    (end : SessionEnd) (begun ended : SessionState) : Type 0 where
  pub given : List ℕ
  pub written : List ℕ
  pub source : Consumes (source_of.left old.source) (source_of.left new.source) given
  pub sink : Appends (sink_of.taken old.sink) (sink_of.taken new.sink) written
  pub replies : Serves (IsReply O disk_of signers) begun given (IsAtEnd (source_of.left new.source))
      written ended end

-- A session was served: it ended so, and its ends were blamed only where they failed. Their counts of faults
-- never fell.
pub record IsServed {N D O S K C : Type 0} (disk_of : DiskGhosts D) (signers : ℕ)
    (source_of : SourceGhosts S) (sink_of : SinkGhosts K) (clock_of : ClockGhosts C)
    (old new : ServedSession N D O S K C) : Type 0 where
  pub end : SessionEnd
  pub ended : new.ended ≡ Some end
  pub session : Converses O disk_of signers source_of sink_of (streams_of old) (streams_of new) end
      (state_of clock_of old.handler) (state_of clock_of new.handler)
  pub source_fault : end ≡ SourceFault
      → HasRisen (source_of.fault_count old.source) (source_of.fault_count new.source)
  pub sink_fault : end ≡ SinkFault
      → HasRisen (sink_of.fault_count old.sink) (sink_of.fault_count new.sink)
  pub source_later : source_of.fault_count old.source ≤ source_of.fault_count new.source
  pub sink_later : sink_of.fault_count old.sink ≤ sink_of.fault_count new.sink
