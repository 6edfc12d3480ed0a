use Rattle.std.proofs.Common.{◌++◌, ◌∙◌, sym, ap, List, ℕ, arith}
use Rattle.der.specs.Spelling.{spelled, unsigned_spelling}
use Rattle.der.specs.Grammar.{AreBytes}
use Rattle.der.specs.laws.ContentLaws.{part-fits, content-read}
use Rattle.der.proofs.parts.unsigned_of.Goals as goal

pub returns-clause-whole : goal.returns-clause-whole
unfolding unsigned_spelling
returns-clause-whole c =
    let element = c.in_ok-element.element in
    let parts = c.in_ok-element.ensures.parts ∙ ap (λ (s : List ℕ). s ++ element.rest.now) c.in_ok-element.ensures.whole in
    let fits : AreBytes element.content.now = part-fits 2 c.args.bytes.now element.content.now element.rest.now (λ i. omega (arith, c.type_inv.bytes i)) parts in
    c.in_ok-element.ensures.whole ∙ ap (spelled 2) (sym (content-read c.args.at element.content.now c.in_ok-n.n fits c.in_ok-n.ensures))
