use Rattle.std.proofs.Common.{sym, ap, ◌∙◌}
use Rattle.std.specs.Option.{option_map}
use Rattle.cert_obj.specs.Values.{read_value}
use Rattle.press_core.proofs.Telling.{has-own}
use Rattle.press_core.proofs.tables.any_certificate.Goals as goal

pub returns-in-Some : goal.returns-in-Some
returns-in-Some c =
    let bytes = c.args.bytes.now in
    let read = sym c.in_ok-found.ensures ∙ ap (option_map read_value) c.in-Some.is in
    has-own bytes c.in-Some.found read (c.objects_are_of_one_kind.ensures.certificates bytes (read_value c.in-Some.found) read).1
