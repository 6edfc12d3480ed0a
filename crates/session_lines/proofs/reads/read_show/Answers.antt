use Rattle.std.proofs.Common.{inr}
use Rattle.session_lines.proofs.Answering.{if_ok_so}
use Rattle.session_lines.proofs.reads.read_show.Goals as goal

pub returns-in-Ok-clause-text : goal.returns-in-Ok-clause-text
returns-in-Ok-clause-text g c =
    if_ok_so c.shown_text.result _ _ c.shown_text.ensures (λ text is. inr (c.in-Ok.shown, c.in-Ok.ensures.shown, is))
