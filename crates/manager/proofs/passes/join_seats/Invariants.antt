use Rattle.std.proofs.Common.{◌≡◌, ◌+◌, length, take}
use Rattle.manager.proofs.Seating.{JoinedFrom}
use Rattle.manager.proofs.passes.join_seats.Given as goal

abbrev pub invariant-loop : goal.invariant-loop
invariant-loop g l =
    (length l.others.items + l.counter ≡ length l.fn.own.items) × (l.others.items ≡ take (length l.others.items) l.fn.others.items)
    × JoinedFrom (length l.others.items) l.fn.own.items l.fn.others.items l.own.items
