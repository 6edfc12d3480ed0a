use Rattle.std.proofs.Common.{◌≤◌, length, vec_capacity}
use Rattle.signer_ring.proofs.Merged.{AreMerged}
use Rattle.signer_ring.proofs.merging.merge.Given as goal

abbrev pub invariant-loop-job : goal.invariant-loop-job
invariant-loop-job l = record {
  merged : AreMerged l.jobs l.job-index l.told l.taken l.answers.items;
  room : length l.jobs ≤ vec_capacity l.answers;
}
