-- What a session does from one state on.
use Rattle.std.specs.Prelude.{ℕ, List}
use Rattle.std.specs.Io.KnownBytes.{Consumes, Appends, IsAtEnd}
use Rattle.disk_api.specs.declared.disk.Disk.{Ghosts as DiskGhosts}
use Rattle.outlet_api.specs.declared.outlet.Outlet.{Ghosts as OutletGhosts}
use Rattle.line_loop.specs.declared.traits.Source.{Ghosts as SourceGhosts}
use Rattle.line_loop.specs.declared.traits.Sink.{Ghosts as SinkGhosts}
use Rattle.line_loop.specs.Session.{Serves}
use Rattle.line_loop.specs.declared.session.SessionEnd.{SessionEnd}
use Rattle.krill_top.specs.InstanceState.{TimedInstanceState}
use Rattle.krill_top.specs.Replies.{IsReply}
use Rattle.krill_top.specs.inner.Instances.{TimedInstance, MovesTimed}

-- The ends of a session, but for its clock.
pub record Streams (S K : Type 0) : Type 0 where
  pub source : S
  pub sink : K

-- The source gave these bytes, and the sink took the replies to their lines, as far as the session's end
-- says, while the one state became the other and the clock was read.
pub record Converses {S K : Type 0} (source_of : SourceGhosts S) (sink_of : SinkGhosts K)
    (old new : Streams S K) (end : SessionEnd) (begun ended : TimedInstanceState)
    : Type 0 where
  pub given : List ℕ
  pub written : List ℕ
  pub source : Consumes (source_of.left old.source) (source_of.left new.source) given
  pub sink : Appends (sink_of.taken old.sink) (sink_of.taken new.sink) written
  pub replies : Serves IsReply begun given (IsAtEnd (source_of.left new.source)) written ended end

-- The session was served over the instance, from each state in which it may be.
abbrev pub Served : {D O S K : Type 0} → DiskGhosts D → OutletGhosts O → SourceGhosts S → SinkGhosts K
    → Streams S K → Streams S K → TimedInstance D O → TimedInstance D O → SessionEnd → Type 0
Served disk_of outlet_of source_of sink_of old new before after end =
    MovesTimed disk_of outlet_of (Converses source_of sink_of old new end) before after
