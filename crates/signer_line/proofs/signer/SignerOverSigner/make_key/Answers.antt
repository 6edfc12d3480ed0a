use Rattle.std.proofs.Common.{ap}
use Rattle.signer_line.specs.Answers.Answered.{Key}
use Rattle.signer_line.specs.Streams.{inbox_from, inbox_left}
use Rattle.signer_line.proofs.LineLemmas.{heard_right, heard_broken, unheard_kept, key_same}
use Rattle.signer_line.proofs.signer.SignerOverSigner.make_key.Goals as goal

pub returns-in-Some-clause-exact : goal.returns-in-Some-clause-exact
returns-in-Some-clause-exact g c = λ key is bytes comes.
    key_same _ _ (heard_right _ _ c.ask-answer.result (Key key) _ (c.ask-answer.ensures.exact (Key key) (is, bytes) comes) c.in-Some.ensures.told)

pub returns-in-None-clause-exact : goal.returns-in-None-clause-exact
returns-in-None-clause-exact g c = λ key is bytes comes.
    unheard_kept _ _ _ _ _ _ _ _ _ _ (ap (λ inbox. g.R.RawReader.fault_count (inbox_from inbox)) c.failed.ensures.inbox)
    (ap (λ to. g.W.RawWriter.fault_count to) c.failed.ensures.to)
    (ap (λ inbox. inbox_left g.R.RawReader.left inbox) c.failed.ensures.inbox)
    (heard_broken _ _ c.ask-answer.result (Key key) (c.ask-answer.ensures.exact (Key key) (is, bytes) comes) (c.in-None.ensures.every key))
