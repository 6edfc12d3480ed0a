use Rattle.std.proofs.Common.{◌+◌, length}
use Rattle.res_sets.proofs.Merges.{Meeting}
use Rattle.res_sets.proofs.merging.meet.Given as goal

abbrev pub invariant-loop-left : goal.invariant-loop-left
invariant-loop-left l = Meeting l.fn.a l.fn.b l.out.items l.a l.b

abbrev pub decreases-loop-left : goal.decreases-loop-left
decreases-loop-left l = length l.a + length l.b
