use Rattle.std.proofs.Common.{◌≡◌, ◌+◌, ◌≤◌, ◌++◌, length}
use Rattle.std.specs.Vec.{vec_capacity, vec_len}
use Rattle.std.specs.Vec.Iter.{into_iter_items, into_iter_len}
use Rattle.pub_set.proofs.merging.move_all.Given as goal

abbrev pub invariant-loop-object : goal.invariant-loop-object
invariant-loop-object l = record {
  items : l.merged.items ++ into_iter_items l.object-iterator ≡ l.fn.merged.items ++ l.fn.rest.items;
  room : vec_len l.merged + into_iter_len l.object-iterator ≤ vec_capacity l.merged;
  left : into_iter_len l.object-iterator ≡ length (into_iter_items l.object-iterator);
}
