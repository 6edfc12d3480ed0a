use Rattle.line_loop.specs.inner.Tries.{IsUntouched}
use Rattle.line_loop.proofs.streams.read_once.Given as goal

abbrev pub invariant-tries : goal.invariant-tries
invariant-tries g l = IsUntouched (g.C.RawReader.left l.fn.from) (g.C.RawReader.left l.from)
    (g.C.RawReader.fault_count l.fn.from) (g.C.RawReader.fault_count l.from)

abbrev pub decreases-tries : goal.decreases-tries
decreases-tries g l = g.C.RawReader.patience l.from
