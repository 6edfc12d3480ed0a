use Rattle.std.proofs.Common.{Option, map, subst}
use Rattle.press_core.specs.declared.tables.Told.{Told}
use Rattle.press_core.specs.inner.Rows.{home_value, Tells, TellsCertificate, IsSomeCrl}
use Rattle.press_core.proofs.Telling.{made-by, plain-made, signed-made}
use Rattle.press_core.proofs.tables.made_told.Goals as goal

pub returns-in-Some : goal.returns-in-Some
returns-in-Some c =
    let homes = map home_value c.args.homes.now in
    let tells = subst (λ (o : Option Told). TellsCertificate homes c.args.bytes.now o) c.in-Some.is c.in_ok-told.ensures in
    made-by homes c.args.bytes.now c.in-Some.told tells.0 tells.1

pub returns-in-Some-2 : goal.returns-in-Some-2
returns-in-Some-2 c =
    plain-made (map home_value c.args.homes.now) c.args.bytes.now c.in-Some-2.told (subst (λ (o : Option Told). Tells IsSomeCrl c.args.bytes.now o) c.in-Some-2.is c.in_ok-told-2.ensures)

pub returns : goal.returns
returns c =
    let homes = map home_value c.args.homes.now in
    signed-made homes c.args.bytes.now (subst (λ (o : Option Told). TellsCertificate homes c.args.bytes.now o) c.in_default.is c.in_ok-told.ensures)
    (subst (λ (o : Option Told). Tells IsSomeCrl c.args.bytes.now o) c.in_default-2.is c.in_ok-told-2.ensures) c.in_ok-by_signed_object.field-0 c.in_ok-by_signed_object.ensures
