use Rattle.std.proofs.Common.{◌∙◌, ap}
use Rattle.der.specs.Spelling.{spelled, bits_spelling}
use Rattle.der.specs.laws.ContentLaws.{content-bits}
use Rattle.der.proofs.parts.bit_string_of.Goals as goal

pub returns-clause-whole : goal.returns-clause-whole
unfolding bits_spelling
returns-clause-whole c =
    c.in_ok-element.ensures.whole ∙ ap (spelled 3) (content-bits c.args.at c.in_ok-element.element.content.now _ c.in_ok-bits.ensures).0
