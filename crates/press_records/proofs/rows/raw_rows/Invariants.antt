use Rattle.std.proofs.Common.{◌≡◌, ◌++◌, length, map}
use Rattle.press_records.specs.Rows.{row_value, row_raw}
use Rattle.press_records.specs.inner.Raw.{raw_value}
use Rattle.press_records.proofs.rows.raw_rows.Given as goal

abbrev pub invariant-loop-row : goal.invariant-loop-row
invariant-loop-row l = map raw_value l.raws.items ++ map (λ row. row_raw (map row_value l.fn.before) (row_value row)) l.left ≡ map (λ row. row_raw (map row_value l.fn.before) (row_value row)) l.fn.rows

abbrev pub decreases-loop-row : goal.decreases-loop-row
decreases-loop-row l = length l.left
