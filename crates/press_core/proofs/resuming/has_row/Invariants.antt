use Rattle.std.proofs.Common.{◌≡◌, drop}
use Rattle.std.specs.List.{list_any}
use Rattle.std.specs.Str.{bytes_eq}
use Rattle.key_roll.specs.declared.rows.KeyRow.{KeyRow}
use Rattle.rp_rules.specs.Views.{point_value}
use Rattle.press_core.specs.Agreement.{has_row}
use Rattle.press_core.proofs.resuming.has_row.Given as goal

abbrev pub invariant-loop-row : goal.invariant-loop-row
invariant-loop-row l = has_row l.rows (point_value l.point) ≡ list_any (λ (r : KeyRow). bytes_eq r.key.bytes l.point.key.bytes) (drop l.row-index l.rows)
