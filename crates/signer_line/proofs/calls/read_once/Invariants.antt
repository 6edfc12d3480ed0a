use Rattle.line_loop.specs.inner.Tries.{IsUntouched}
use Rattle.signer_line.proofs.calls.read_once.Given as goal

abbrev pub invariant-tries : goal.invariant-tries
invariant-tries g l = IsUntouched (g.R.RawReader.left l.fn.from) (g.R.RawReader.left l.from)
    (g.R.RawReader.fault_count l.fn.from) (g.R.RawReader.fault_count l.from)

abbrev pub decreases-tries : goal.decreases-tries
decreases-tries g l = g.R.RawReader.patience l.from
