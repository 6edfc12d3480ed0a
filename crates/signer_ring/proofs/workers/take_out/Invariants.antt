use Rattle.std.proofs.Common.{◌≡◌, ◌≤◌, ◌+◌, ◌++◌, length, map, reverse, vec_capacity}
use Rattle.signer_ring.proofs.workers.take_out.Given as goal

abbrev pub invariant-loop-signer : goal.invariant-loop-signer
invariant-loop-signer g l = record {
  all : l.signers.items ++ reverse (map (λ w. w.signer) l.workers.items) ≡ l.fn.signers.items;
  room : length l.signers.items + length l.workers.items ≤ vec_capacity l.workers;
  kept : vec_capacity l.signers ≡ vec_capacity l.fn.signers;
}

abbrev pub decreases-loop-signer : goal.decreases-loop-signer
decreases-loop-signer g l = length l.signers.items
