use Rattle.std.proofs.Common.{length, map}
use Rattle.std.specs.List.{AllByRecursion}
use Rattle.press_records.specs.Rows.{row_value}
use Rattle.press_records.specs.Recordable.{IsTypedRow}
use Rattle.press_records.proofs.types.rows_fit.Given as goal

abbrev pub invariant-loop-row : goal.invariant-loop-row
invariant-loop-row l = AllByRecursion IsTypedRow (map row_value l.left) → AllByRecursion IsTypedRow (map row_value l.fn.rows)

abbrev pub decreases-loop-row : goal.decreases-loop-row
decreases-loop-row l = length l.left
