use Rattle.std.proofs.Common.{◌≡◌, ◌++◌, take}
use Rattle.editions.proofs.in_place.push_copies.Given as goal

abbrev pub invariant-loop-change : goal.invariant-loop-change
invariant-loop-change l = l.all.items ≡ l.fn.all.items ++ take l.change-index l.changes
