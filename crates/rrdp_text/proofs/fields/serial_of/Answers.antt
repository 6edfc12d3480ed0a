use Rattle.std.proofs.Common.{◌∙◌, arith}
use Rattle.rrdp_text.specs.declared.parts.Alphabet.TheVariants.{Digit}
use Rattle.rrdp_text.proofs.Fronts.{alphabet_utf8}
use Rattle.rrdp_text.proofs.Values.{serial_parsed}
use Rattle.rrdp_text.proofs.fields.serial_of.Goals as goal
use Rattle.rrdp_text.proofs.fields.serial_of.Goals.{else-digits-gt1-via-then-digits-gt1+else-digits-eq48, else-digits-gt1-via-else-digits-gt1}

pub text_of-requires : goal.text_of-requires
text_of-requires c = alphabet_utf8 Digit c.args.digits.now c.requires

pub returns : goal.returns
returns c = c.ok.ensures.value ∙ serial_parsed c.args.digits.now c.parse.result c.requires
    (elim c.else-digits-gt1.branch [
      | else-digits-gt1-via-then-digits-gt1+else-digits-eq48 w ↦ λ long zero_first. w.if-digits-eq48.false zero_first
      | else-digits-gt1-via-else-digits-gt1 w ↦ λ long zero_first. absurd (omega arith)
    ])
    (rw c.text_of.ensures at c.parse.ensures.value.0)
