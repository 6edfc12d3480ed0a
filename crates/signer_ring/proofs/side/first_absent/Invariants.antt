use Rattle.std.proofs.Common.{◌≡◌, drop}
use Rattle.signer_ring.specs.Jobs.{first_absent}
use Rattle.signer_ring.proofs.side.first_absent.Given as goal

abbrev pub invariant-loop-job : goal.invariant-loop-job
invariant-loop-job l = first_absent l.count (drop l.job-index l.jobs) ≡ first_absent l.count l.jobs
