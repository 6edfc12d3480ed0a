use Rattle.std.proofs.Common.{◌≡◌, drop}
use Rattle.rp_rules.specs.declared.audited.AuditedPoint.{AuditedPoint}
use Rattle.rp_rules.specs.Views.{point_value, point_values}
use Rattle.press_core.specs.Agreement as agreement
use Rattle.press_core.proofs.resuming.first_difference.Given as goal

abbrev pub invariant-loop-point : goal.invariant-loop-point
invariant-loop-point l = agreement.first_told (agreement.differs_here l.row) (point_values l.points) ≡ agreement.first_told (λ (x : AuditedPoint). agreement.differs_here l.row (point_value x)) (drop l.point-index l.points)
