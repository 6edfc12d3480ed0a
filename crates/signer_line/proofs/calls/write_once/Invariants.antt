use Rattle.line_loop.specs.inner.Tries.{IsUntouched}
use Rattle.signer_line.proofs.calls.write_once.Given as goal

abbrev pub invariant-tries : goal.invariant-tries
invariant-tries g l = IsUntouched (g.W.RawWriter.taken l.fn.to) (g.W.RawWriter.taken l.to)
    (g.W.RawWriter.fault_count l.fn.to) (g.W.RawWriter.fault_count l.to)

abbrev pub decreases-tries : goal.decreases-tries
decreases-tries g l = g.W.RawWriter.patience l.to
