use Rattle.std.proofs.Common.{ap}
use Rattle.signer_line.specs.Answers.Answered.{Signature}
use Rattle.signer_line.specs.Streams.{inbox_from, inbox_left}
use Rattle.signer_line.proofs.LineLemmas.{heard_right, heard_broken, unheard_kept, signature_same}
use Rattle.signer_line.proofs.signer.SignerOverSigner.sign.Goals as goal

pub returns-in-Some-clause-exact : goal.returns-in-Some-clause-exact
returns-in-Some-clause-exact g c = λ signature long bytes comes.
    signature_same _ _ (heard_right _ _ c.ask-answer.result (Signature signature) _ (c.ask-answer.ensures.exact (Signature signature) (long, bytes) comes) c.in-Some.ensures.told)

pub returns-in-None-clause-exact : goal.returns-in-None-clause-exact
returns-in-None-clause-exact g c = λ signature long bytes comes.
    unheard_kept _ _ _ _ _ _ _ _ _ _ (ap (λ inbox. g.R.RawReader.fault_count (inbox_from inbox)) c.failed.ensures.inbox)
    (ap (λ to. g.W.RawWriter.fault_count to) c.failed.ensures.to)
    (ap (λ inbox. inbox_left g.R.RawReader.left inbox) c.failed.ensures.inbox)
    (heard_broken _ _ c.ask-answer.result (Signature signature) (c.ask-answer.ensures.exact (Signature signature) (long, bytes) comes) (c.in-None.ensures.every signature))
