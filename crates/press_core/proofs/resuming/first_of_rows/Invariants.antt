use Rattle.std.proofs.Common.{◌≡◌, drop}
use Rattle.key_roll.specs.declared.rows.KeyRow.{KeyRow}
use Rattle.rp_rules.specs.Views.{point_values}
use Rattle.press_core.specs.Agreement as agreement
use Rattle.press_core.proofs.resuming.first_of_rows.Given as goal

abbrev pub invariant-loop-row : goal.invariant-loop-row
invariant-loop-row l = agreement.first_told (agreement.row_mismatch (point_values l.points)) l.rows ≡ agreement.first_told (λ (x : KeyRow). agreement.row_mismatch (point_values l.points) x) (drop l.row-index l.rows)
