use Rattle.rrdp_text.specs.declared.parts.Alphabet.TheVariants.{Digit, Session}
use Rattle.rrdp_text.proofs.Fronts.{plain_all, alphabet_utf8}
use Rattle.rrdp_text.proofs.fields.opening.Goals as goal

pub session_of-requires : goal.session_of-requires
session_of-requires c = alphabet_utf8 Session c.in_ok-text.text.now (plain_all Session 34 _ c.in_ok-text.text.now c.in_ok-text.rest.now c.in_ok-text.ensures)

pub serial_of-requires : goal.serial_of-requires
serial_of-requires c = plain_all Digit 34 _ c.in_ok-digits.digits.now c.in_ok-digits.rest.now c.in_ok-digits.ensures
