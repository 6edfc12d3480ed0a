use Rattle.std.proofs.Common.{◌≡◌, ◌++◌, length}
use Rattle.press_records.specs.Rows.{added}
use Rattle.press_records.proofs.entries.added.Given as goal

abbrev pub invariant-loop-row : goal.invariant-loop-row
invariant-loop-row l = l.fresh.items ++ added l.left l.known ≡ added l.fn.entries l.fn.carried

abbrev pub decreases-loop-row : goal.decreases-loop-row
decreases-loop-row l = length l.left
