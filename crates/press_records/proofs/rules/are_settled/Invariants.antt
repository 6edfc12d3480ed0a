use Rattle.std.proofs.Common.{◌≡◌, length, map}
use Rattle.std.specs.List.{list_all}
use Rattle.press_records.specs.Rows.{row_value}
use Rattle.press_records.specs.Edition.{is_settled}
use Rattle.press_records.proofs.rules.are_settled.Given as goal

abbrev pub invariant-loop-row : goal.invariant-loop-row
invariant-loop-row l = list_all (is_settled l.fn.moment) (map row_value l.left) ≡ list_all (is_settled l.fn.moment) (map row_value l.fn.rows)

abbrev pub decreases-loop-row : goal.decreases-loop-row
decreases-loop-row l = length l.left
