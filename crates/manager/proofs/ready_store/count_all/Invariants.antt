use Rattle.std.proofs.Common.{◌≡◌, ◌≤◌, ◌+◌, length, take, drop, reverse}
use Rattle.std.specs.Vec.{vec_capacity}
use Rattle.manager.specs.Starting.{AreCounted}
use Rattle.manager.proofs.ready_store.count_all.Given as goal

abbrev pub invariant-loop : goal.invariant-loop
invariant-loop g l = record {
  long : length l.desks.items + l.counter ≡ length l.fn.desks.items;
  front : l.desks.items ≡ take (length l.desks.items) l.fn.desks.items;
  room : length l.fn.desks.items ≤ vec_capacity l.desks;
  made : length l.opened.items ≡ l.counter;
  made_room : length l.fn.desks.items ≤ vec_capacity l.opened;
  counted : AreCounted (drop (length l.desks.items) l.fn.desks.items) (reverse l.opened.items);
}
