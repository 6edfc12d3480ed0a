-- What a session's handler answers over.
use Rattle.line_loop.specs.declared.traits.Clock.{Ghosts as ClockGhosts}
use Rattle.krill_top.specs.declared.handler.Handler.{Handler}
use Rattle.krill_top.specs.InstanceState.{TimedInstanceState}
use Rattle.krill_top.specs.Working.{Worked}
use Rattle.krill_top.specs.inner.Instances.{TimedInstance}

-- its instance, what its clock tells, and what it keeps
abbrev pub timed : {D G O C : Type 0} → ClockGhosts C → Handler D G O C → TimedInstance D O
timed clock_of handler = record {
  instance = handler.instance;
  clock = clock_of.readings handler.clock;
  kept = handler.kept;
}

-- a sink beside the state
abbrev pub worked : {K : Type 0} → K → TimedInstanceState → Worked K
worked sink state = record { sink = sink; timed = state }
