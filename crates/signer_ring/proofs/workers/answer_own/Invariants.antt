use Rattle.signer_ring.proofs.Answered.{HasDone}
use Rattle.signer_ring.proofs.workers.answer_own.Given as goal

abbrev pub invariant-loop-job : goal.invariant-loop-job
invariant-loop-job g l = HasDone l.number l.jobs l.job-index l.answers.items (g.S.Signer.state l.fn.signer) (g.S.Signer.state l.signer)
