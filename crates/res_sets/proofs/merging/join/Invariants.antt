use Rattle.std.proofs.Common.{◌+◌, length}
use Rattle.res_sets.proofs.Merges.{Joining}
use Rattle.res_sets.proofs.merging.join.Given as goal

abbrev pub invariant-loop-range : goal.invariant-loop-range
invariant-loop-range l = Joining l.fn.a l.fn.b l.out.items l.a l.b

abbrev pub decreases-loop-range : goal.decreases-loop-range
decreases-loop-range l = length l.a + length l.b
