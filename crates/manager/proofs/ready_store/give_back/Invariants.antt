use Rattle.std.proofs.Common.{◌≡◌, ◌≤◌, ◌+◌, ◌++◌, length}
use Rattle.std.specs.Vec.{vec_capacity}
use Rattle.manager.proofs.Counting.{unworded}
use Rattle.manager.proofs.ready_store.give_back.Given as goal

abbrev pub invariant-loop : goal.invariant-loop
invariant-loop g l = record {
  long : length l.opened.items + l.counter ≡ length l.fn.opened.items;
  room : length l.desks.items + length l.opened.items ≤ vec_capacity l.desks;
  back : l.desks.items ++ unworded l.opened.items ≡ l.fn.desks.items ++ unworded l.fn.opened.items;
}
