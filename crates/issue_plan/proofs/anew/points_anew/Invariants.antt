use Rattle.std.proofs.Common.{◌≡◌, not, take}
use Rattle.std.specs.Prelude.{filter}
use Rattle.issue_plan.specs.inner.Anew.{point_stays}
use Rattle.issue_plan.proofs.anew.points_anew.Given as goal

abbrev pub invariant-loop-point : goal.invariant-loop-point
invariant-loop-point l =
    l.anew.items ≡ filter (λ point. not (point_stays l.standing l.settled l.changed point)) (take l.point-index l.points)
