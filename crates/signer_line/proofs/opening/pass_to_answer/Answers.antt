use Rattle.signer_line.proofs.OpeningLemmas.{greeted_after, not_greeted_after}
use Rattle.signer_line.proofs.opening.pass_to_answer.Goals as goal

pub returns-in-Ok-Answer-pass_lines-clause-heard : goal.returns-in-Ok-Answer-pass_lines-clause-heard
returns-in-Ok-Answer-pass_lines-clause-heard g c =
    greeted_after _ _ _ _ _ _ c.in-Ok-Strange.field-0-is c.in-Ok-Answer-pass_lines.field-0-is c.in-Ok-Strange.ensures.heard
    c.in-Ok-Answer-pass_lines.ensures.heard

pub returns-in-Err-pass_lines-clause-refused : goal.returns-in-Err-pass_lines-clause-refused
returns-in-Err-pass_lines-clause-refused g c =
    not_greeted_after c.in-Err-pass_lines.stop _ _ _ _ _ _ _ _ _ c.unmet_of.ensures c.in-Ok-Strange.field-0-is c.in-Ok-Strange.ensures.ok
    c.in-Ok-Strange.ensures.heard c.in-Err-pass_lines.ensures.stop
