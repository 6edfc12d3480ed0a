use Rattle.std.proofs.Common.{◌≡◌, drop}
use Rattle.std.specs.List.{list_any}
use Rattle.std.specs.Str.{bytes_eq}
use Rattle.rp_rules.specs.declared.audited.AuditedPoint.{AuditedPoint}
use Rattle.rp_rules.specs.Views.{point_values}
use Rattle.press_core.specs.Agreement.{has_point}
use Rattle.press_core.proofs.resuming.has_point.Given as goal

abbrev pub invariant-loop-point : goal.invariant-loop-point
invariant-loop-point l = has_point (point_values l.points) l.row ≡ list_any (λ (p : AuditedPoint). bytes_eq p.key.bytes l.row.key.bytes) (drop l.point-index l.points)
