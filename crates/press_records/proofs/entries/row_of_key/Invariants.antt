use Rattle.std.proofs.Common.{◌≡◌, length, map}
use Rattle.press_records.specs.Rows.{row_value, row_of_key}
use Rattle.press_records.proofs.entries.row_of_key.Given as goal

abbrev pub invariant-loop-row : goal.invariant-loop-row
invariant-loop-row l = row_of_key (map row_value l.left) l.fn.key.bytes ≡ row_of_key (map row_value l.fn.rows) l.fn.key.bytes

abbrev pub decreases-loop-row : goal.decreases-loop-row
decreases-loop-row l = length l.left
