use Rattle.std.proofs.Common.{sym, ap, ◌∙◌, map}
use Rattle.std.specs.Option.{option_map}
use Rattle.cert_obj.specs.Values.{read_value}
use Rattle.press_core.specs.inner.Rows.{home_value}
use Rattle.press_core.proofs.Telling.{authority-tells}
use Rattle.press_core.proofs.tables.by_certificate.Goals as goal

pub returns-in-Some : goal.returns-in-Some
returns-in-Some c =
    authority-tells (map home_value c.args.homes.now) c.args.bytes.now (read_value c.in-Some.found) c.authority_told.result
    (sym c.in_ok-found.ensures ∙ ap (option_map read_value) c.in-Some.is) c.authority_told.ensures
