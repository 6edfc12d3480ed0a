use Rattle.std.proofs.Common.{◌≡◌, ◌++◌, length, map}
use Rattle.press_records.specs.Rows.{row_value}
use Rattle.press_records.specs.Edition.{id_of}
use Rattle.press_records.proofs.rules.ids_of.Given as goal

abbrev pub invariant-loop-row : goal.invariant-loop-row
invariant-loop-row l = l.ids.items ++ map id_of (map row_value l.left) ≡ map id_of (map row_value l.fn.rows)

abbrev pub decreases-loop-row : goal.decreases-loop-row
decreases-loop-row l = length l.left
