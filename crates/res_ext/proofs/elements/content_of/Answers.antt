use Rattle.std.proofs.Common.{sym, ◌∙◌, arith}
use Rattle.std.specs.Option.{option_map}
use Rattle.der.specs.Part.{place}
use Rattle.res_ext.specs.laws.AnswerLaws.{content-told}
use Rattle.res_ext.proofs.elements.content_of.Goals as goal

pub returns : goal.returns
returns c =
    content-told c.args.bytes.now c.in-Ok.content.now c.in-Ok.rest.now (option_map place c.whole.result)
    (λ i. omega (arith, c.type_inv.bytes i)) c.in-Ok.ensures (sym c.is_empty.ensures ∙ c.if-not-is_empty.false) c.whole.ensures
