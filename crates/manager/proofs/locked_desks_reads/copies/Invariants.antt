use Rattle.std.proofs.Common.{◌≡◌, take}
use Rattle.manager.proofs.locked_desks_reads.copies.Given as goal

abbrev pub invariant-loop-child : goal.invariant-loop-child
invariant-loop-child l = l.copies.items ≡ take l.child-index l.children
