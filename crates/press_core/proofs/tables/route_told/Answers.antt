use Rattle.std.proofs.Common.{sym, ◌∙◌}
use Rattle.cert_obj.specs.Values.{cert_value}
use Rattle.payloads.specs.RoaReading.{roa_view}
use Rattle.press_core.proofs.Contents.{no-route, own-route, other-route}
use Rattle.press_core.proofs.tables.route_told.Goals as goal

pub returns-in_default : goal.returns-in_default
returns-in_default c = no-route (roa_view c.args.body.now) (cert_value c.args.cert.now) c.in_default.ensures

pub returns-then-holds_just : goal.returns-then-holds_just
returns-then-holds_just c =
    own-route (roa_view c.args.body.now) (cert_value c.args.cert.now) c.in-Some.origin c.in-Some.ensures (sym c.holds_just.ensures ∙ c.if-holds_just.true)

pub returns-else-holds_just : goal.returns-else-holds_just
returns-else-holds_just c =
    other-route (roa_view c.args.body.now) (cert_value c.args.cert.now) c.in-Some.origin c.in-Some.ensures (sym c.holds_just.ensures ∙ c.if-holds_just.false)
