use Rattle.std.proofs.Common.{ap, inr}
use Rattle.signer_line.specs.Answers.Answered.{Dropped}
use Rattle.signer_line.specs.Streams.{inbox_from, inbox_left}
use Rattle.signer_line.proofs.LineLemmas.{heard_broken, unheard_kept}
use Rattle.signer_line.proofs.signer.SignerOverSigner.drop_key.Goals as goal

pub returns-in-None-clause-exact : goal.returns-in-None-clause-exact
returns-in-None-clause-exact g c = λ comes.
    inr (unheard_kept _ _ _ _ _ _ _ _ _ _ (ap (λ inbox. g.R.RawReader.fault_count (inbox_from inbox)) c.failed.ensures.inbox)
    (ap (λ to. g.W.RawWriter.fault_count to) c.failed.ensures.to)
    (ap (λ inbox. inbox_left g.R.RawReader.left inbox) c.failed.ensures.inbox)
    (heard_broken _ _ c.ask-answer.result (Dropped) (c.ask-answer.ensures.exact (Dropped) tt comes) c.in-None.ensures.every))
