use Rattle.std.proofs.Common.{Option, subst}
use Rattle.cert_obj.specs.declared.values.ReadCert.{ReadCert}
use Rattle.press_core.specs.inner.Rows.{MayHave}
use Rattle.press_core.proofs.Telling.{other-by, other-none}
use Rattle.press_core.proofs.tables.other_told.Goals as goal

pub returns-in-Some : goal.returns-in-Some
returns-in-Some c =
    let bytes = c.args.bytes.now in
    let made = c.nothing_told.ensures in
    other-by bytes c.nothing_told.result c.in-Some.found (subst (λ (o : Option ReadCert). MayHave bytes o) c.in-Some.is c.in_ok-found.ensures) made.what made.issuer made.serial made.end

pub returns-in-None : goal.returns-in-None
returns-in-None c =
    let bytes = c.args.bytes.now in
    other-none bytes c.nothing_told-in-None.result (subst (λ (o : Option ReadCert). MayHave bytes o) c.in-None.is c.in_ok-found.ensures) c.nothing_told-in-None.ensures.what
