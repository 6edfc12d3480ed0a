use Rattle.std.proofs.Common.{◌+◌, length}
use Rattle.res_sets.proofs.Lookups.{Comparing}
use Rattle.res_sets.proofs.lookup.is_inside.Given as goal

abbrev pub invariant-loop-inner : goal.invariant-loop-inner
invariant-loop-inner l = Comparing l.fn.a l.fn.b l.a l.b

abbrev pub decreases-loop-inner : goal.decreases-loop-inner
decreases-loop-inner l = length l.a + length l.b
