use Rattle.std.proofs.Common.{sym, ap, ◌∙◌}
use Rattle.std.specs.Option.{option_map}
use Rattle.cert_obj.specs.Values.{cert_value}
use Rattle.payloads.specs.RoaReading.{roa_view}
use Rattle.press_core.proofs.Contents.{roa-none, roa-tells}
use Rattle.press_core.proofs.tables.roa_told.Goals as goal

pub returns-in-Some : goal.returns-in-Some
returns-in-Some c =
    roa-tells c.args.content.now (cert_value c.args.cert.now) (roa_view c.in-Some.body) c.route_told.result (ap (option_map roa_view) (sym c.in-Some.is) ∙ c.in_ok-body.ensures) c.route_told.ensures

pub returns-in-None : goal.returns-in-None
returns-in-None c = roa-none c.args.content.now (cert_value c.args.cert.now) (ap (option_map roa_view) (sym c.in-None.is) ∙ c.in_ok-body.ensures)
