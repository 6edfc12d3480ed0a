use Rattle.std.proofs.Common.{drop}
use Rattle.res_sets.specs.Numbers.{family_end}
use Rattle.res_sets.specs.Merging.{low_after}
use Rattle.res_sets.proofs.Lookups.{Checking}
use Rattle.res_sets.proofs.lookup.is_canonical.Given as goal

abbrev pub invariant-loop-range : goal.invariant-loop-range
invariant-loop-range l = Checking (family_end l.fn.family) l.ranges (low_after l.before) (drop l.range-index l.ranges)
