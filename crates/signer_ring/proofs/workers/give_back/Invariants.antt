use Rattle.std.proofs.Common.{◌≡◌, ◌≤◌, ◌+◌, ◌++◌, length, map, vec_capacity}
use Rattle.std.specs.Vec.Iter.{into_iter_items, into_iter_len}
use Rattle.signer_ring.proofs.workers.give_back.Given as goal

abbrev pub invariant-loop-worker : goal.invariant-loop-worker
invariant-loop-worker g l = record {
  signers : l.signers.items ++ map (λ w. w.signer) (into_iter_items l.worker-iterator) ≡ l.fn.signers.items ++ map (λ w. w.signer) l.fn.workers.items;
  told : l.told.items ++ map (λ w. w.told) (into_iter_items l.worker-iterator) ≡ l.fn.told.items ++ map (λ w. w.told) l.fn.workers.items;
  count : into_iter_len l.worker-iterator ≡ length (into_iter_items l.worker-iterator);
  room : length l.signers.items + length (into_iter_items l.worker-iterator) ≤ vec_capacity l.signers;
  told_room : length l.told.items + length (into_iter_items l.worker-iterator) ≤ vec_capacity l.told;
}
