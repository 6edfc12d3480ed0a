use Rattle.std.proofs.Common.{◌+◌, length}
use Rattle.pub_set.proofs.Differences.{IsReached}
use Rattle.pub_set.proofs.deltas.changes.Given as goal

abbrev pub invariant-pairs : goal.invariant-pairs
invariant-pairs l = IsReached l.fn.old l.fn.new l.held l.wanted l.changes.items

abbrev pub decreases-pairs : goal.decreases-pairs
decreases-pairs l = length l.held + length l.wanted
