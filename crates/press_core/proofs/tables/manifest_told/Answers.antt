use Rattle.std.proofs.Common.{sym, ap, ◌∙◌}
use Rattle.std.specs.Option.{option_map}
use Rattle.cert_obj.specs.Values.{cert_value}
use Rattle.payloads.specs.ManifestReading.{manifest_view}
use Rattle.press_core.proofs.Contents.{manifest-none, manifest-tells}
use Rattle.press_core.proofs.tables.manifest_told.Goals as goal

pub returns-in-Some : goal.returns-in-Some
returns-in-Some c =
    manifest-tells c.args.content.now (cert_value c.args.cert.now) (manifest_view c.in-Some.body) c.point_told.result (ap (option_map manifest_view) (sym c.in-Some.is) ∙ c.in_ok-body.ensures) c.point_told.ensures

pub returns-in-None : goal.returns-in-None
returns-in-None c = manifest-none c.args.content.now (cert_value c.args.cert.now) (ap (option_map manifest_view) (sym c.in-None.is) ∙ c.in_ok-body.ensures)
