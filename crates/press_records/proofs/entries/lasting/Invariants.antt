use Rattle.std.proofs.Common.{◌≡◌, ◌++◌, length}
use Rattle.press_records.specs.Rows.{lasting}
use Rattle.press_records.proofs.entries.lasting.Given as goal

abbrev pub invariant-loop-row : goal.invariant-loop-row
invariant-loop-row l = l.kept.items ++ lasting l.fn.time l.left ≡ lasting l.fn.time l.fn.entries

abbrev pub decreases-loop-row : goal.decreases-loop-row
decreases-loop-row l = length l.left
