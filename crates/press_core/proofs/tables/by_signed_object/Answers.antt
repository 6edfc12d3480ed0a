use Rattle.std.proofs.Common.{Option, refl, sym, ap, subst, ◌∙◌}
use Rattle.std.specs.Option.{option_map}
use Rattle.key_roll.specs.declared.issued.What.{What}
use Rattle.cert_obj.specs.Values.{cert_value, read_value}
use Rattle.cms_obj.specs.Values.{object_value}
use Rattle.press_core.specs.declared.tables.Told.{Told}
use Rattle.press_core.specs.inner.Rows.{TellsWhat}
use Rattle.press_core.proofs.Telling.{signed-tells, no-what}
use Rattle.press_core.proofs.tables.by_signed_object.Goals as goal

pub returns-in-Some-3 : goal.returns-in-Some-3
returns-in-Some-3 c =
    let object = object_value c.in-Some.object in
    let inside = c.in-Some-2.inside in
    let told : Told = record { issuer = inside.cert.issuer; serial = inside.cert.serial; not_after = inside.cert.not_after; what = c.in-Some-3.what } in
    signed-tells c.args.bytes.now object (sym c.in-Some.ensures) (read_value inside) (sym c.in_ok-inside.ensures ∙ ap (option_map read_value) c.in-Some-2.is) told
    (subst (λ (what : Option What). TellsWhat object (cert_value inside.cert) what) c.in-Some-3.is c.in_ok-what.ensures) (record { issuer = refl; serial = refl; not_after = refl })

pub returns : goal.returns
returns c =
    let object = object_value c.in-Some.object in
    let inside = c.in-Some-2.inside in
    no-what c.args.bytes.now object (sym c.in-Some.ensures) (read_value inside) (sym c.in_ok-inside.ensures ∙ ap (option_map read_value) c.in-Some-2.is)
    (subst (λ (what : Option What). TellsWhat object (cert_value inside.cert) what) c.in-None.is c.in_ok-what.ensures)
