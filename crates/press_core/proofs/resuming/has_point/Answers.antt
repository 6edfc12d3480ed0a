use Rattle.std.proofs.Common.{sym, ◌∙◌, arith}
use Rattle.std.specs.Str.{bytes_eq}
use Rattle.rp_rules.specs.declared.audited.AuditedPoint.{AuditedPoint}
use Rattle.rp_rules.specs.Yield.{PointValue}
use Rattle.rp_rules.specs.Views.{point_value}
use Rattle.press_core.proofs.Comparing.{any-map, any-step, any-found, any-end}
use Rattle.press_core.proofs.resuming.has_point.Goals as goal

pub loop-point-init : goal.loop-point-init
loop-point-init c = any-map (λ (q : PointValue). bytes_eq q.key c.args.row.now.key.bytes) point_value c.args.points.now

pub loop-point-preserved : goal.loop-point-preserved
loop-point-preserved c =
    c.loop-point.invariant
    ∙ any-step (λ (p : AuditedPoint). bytes_eq p.key.bytes c.args.row.now.key.bytes) c.args.points.now c.loop-point.point-index c.point-item.result c.loop-point-test.true c.point-item.is
    (sym c.eq.ensures ∙ c.if-eq.false)

pub returns-then-eq : goal.returns-then-eq
returns-then-eq c =
    sym (c.loop-point.invariant
    ∙ any-found (λ (p : AuditedPoint). bytes_eq p.key.bytes c.args.row.now.key.bytes) c.args.points.now c.loop-point.point-index c.point-item.result c.loop-point-test.true c.point-item.is
    (sym c.eq.ensures ∙ c.if-eq.true))

pub returns : goal.returns
returns c =
    sym (c.loop-point.invariant
    ∙ any-end (λ (p : AuditedPoint). bytes_eq p.key.bytes c.args.row.now.key.bytes) c.args.points.now c.loop-point.point-index (omega arith))
