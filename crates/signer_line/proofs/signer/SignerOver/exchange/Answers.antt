use Rattle.std.proofs.Common.{◌∙◌, inl}
use Rattle.signer_line.specs.Answers.{answer_line}
use Rattle.signer_line.proofs.LineLemmas.{answer_whole, answer_short, line_comes, line_missed, some_same, none_some}
use Rattle.signer_line.proofs.signer.SignerOver.exchange.Goals as goal

pub returns-in-Some-clause-exact : goal.returns-in-Some-clause-exact
returns-in-Some-clause-exact g c = λ answer is comes.
    let same = line_comes _ _ _ (answer_line answer) (answer_whole answer is) comes c.in-Ok.ensures.heard c.in-Ok.ensures.whole in
    some_same _ _ _ (c.in-Some.ensures.every answer is (c.as_bytes-in-Ok.ensures ∙ same))

pub returns-in-None-clause-exact : goal.returns-in-None-clause-exact
returns-in-None-clause-exact g c = λ answer is comes.
    let same = line_comes _ _ _ (answer_line answer) (answer_whole answer is) comes c.in-Ok.ensures.heard c.in-Ok.ensures.whole in
    absurd (none_some _ _ (c.in-None.ensures.every answer is (c.as_bytes-in-Ok.ensures ∙ same)))

pub returns-in-Err-clause-exact : goal.returns-in-Err-clause-exact
returns-in-Err-clause-exact g c = λ answer is comes.
    inl (line_missed c.in-Err.field-0 _ _ _ _ (answer_line answer) (answer_short answer is) comes c.in-Err.ensures.stop)
