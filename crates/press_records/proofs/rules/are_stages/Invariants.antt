use Rattle.std.proofs.Common.{◌≡◌, length, map}
use Rattle.press_records.specs.Rows.{row_value}
use Rattle.press_records.specs.Stages.{are_stages}
use Rattle.press_records.proofs.rules.are_stages.Given as goal

abbrev pub invariant-loop-row : goal.invariant-loop-row
invariant-loop-row l = are_stages l.low (map row_value l.left) ≡ are_stages l.fn.low (map row_value l.fn.rows)

abbrev pub decreases-loop-row : goal.decreases-loop-row
decreases-loop-row l = length l.left
