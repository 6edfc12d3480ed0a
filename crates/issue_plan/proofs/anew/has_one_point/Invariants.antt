use Rattle.std.proofs.Common.{◌≡◌, map, take, true}
use Rattle.issue_plan.specs.Fits.{has_one_point}
use Rattle.issue_plan.proofs.anew.has_one_point.Given as goal

abbrev pub invariant-loop-row : goal.invariant-loop-row
invariant-loop-row l = has_one_point (map (λ row. row.now) (take l.row-index l.rows)) l.key l.crl l.manifest ≡ true
