use Rattle.std.proofs.Common.{◌≡◌, map, take, None}
use Rattle.std.specs.Prelude.{find}
use Rattle.issue_plan.specs.Serves.{is_for}
use Rattle.issue_plan.proofs.firsts.first_for.Given as goal

abbrev pub invariant-loop-row : goal.invariant-loop-row
invariant-loop-row l = find (λ row. is_for l.key row.what) (map (λ row. row.now) (take l.row-index l.rows)) ≡ None
