use Rattle.std.proofs.Common.{◌≡◌, take}
use Rattle.issue_keys.specs.Keys.{kept_rows}
use Rattle.issue_keys.proofs.rows.kept_rows.Given as goal

abbrev pub invariant-loop-row : goal.invariant-loop-row
invariant-loop-row l = l.kept.items ≡ kept_rows l.work (take l.row-index l.rows)
