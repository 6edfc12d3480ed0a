use Rattle.std.proofs.Common.{◌≡◌, ◌+◌, ◌≤◌, ◌++◌}
use Rattle.std.specs.Vec.{vec_capacity, vec_len}
use Rattle.std.specs.VecDeque.{deque_len}
use Rattle.pub_set.specs.Objects.{IsBehind}
use Rattle.pub_set.proofs.merging.move_below.Given as goal

abbrev pub invariant-loop-object : goal.invariant-loop-object
invariant-loop-object l = record {
  items : l.merged.items ++ l.rest.items ≡ l.fn.merged.items ++ l.fn.rest.items;
  behind : IsBehind l.merged.items l.uri;
  len : vec_len l.merged + deque_len l.rest ≡ vec_len l.fn.merged + deque_len l.fn.rest;
  capacity : vec_capacity l.fn.merged ≤ vec_capacity l.merged;
}

abbrev pub decreases-loop-object : goal.decreases-loop-object
decreases-loop-object l = deque_len l.rest
