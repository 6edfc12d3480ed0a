use Rattle.rrdp_text.specs.declared.parts.Alphabet.TheVariants.{Uri}
use Rattle.rrdp_text.proofs.Fronts.{plain_all, alphabet_utf8}
use Rattle.rrdp_text.proofs.fields.uri.Goals as goal

pub returns-then-is_below-clause-text : goal.returns-then-is_below-clause-text
returns-then-is_below-clause-text c = alphabet_utf8 Uri c.in_ok-uri.uri.now (plain_all Uri 34 _ c.in_ok-uri.uri.now c.in_ok-uri.rest.now c.in_ok-uri.ensures)
