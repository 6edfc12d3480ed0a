use Rattle.line_loop.specs.inner.Tries.{IsUntouched}
use Rattle.line_loop.proofs.streams.write_once.Given as goal

abbrev pub invariant-tries : goal.invariant-tries
invariant-tries g l = IsUntouched (g.C.RawWriter.taken l.fn.to) (g.C.RawWriter.taken l.to)
    (g.C.RawWriter.fault_count l.fn.to) (g.C.RawWriter.fault_count l.to)

abbrev pub decreases-tries : goal.decreases-tries
decreases-tries g l = g.C.RawWriter.patience l.to
