use Rattle.rrdp_text.proofs.Fronts.{digits_utf8}
use Rattle.rrdp_text.proofs.lines.push_digits.Goals as goal

pub text_of-requires : goal.text_of-requires
text_of-requires c = rw c.in-Ok.ensures.written (digits_utf8 c.args.hash.now)
