use Rattle.signer_ring.proofs.RingCalls.{placed, asks_one, answers_one}
use Rattle.signer_ring.proofs.ring.Ring.ask.Goals as goal

pub returns-clause-answer : goal.returns-clause-answer
returns-clause-answer g c =
    answers_one _ _ _ _ _ _ _ _ _ _ (placed _ _ _ _ _ _ c.self.view_is c.requires c.index_mut.ensures.value)
    c.answered.ensures c.check-told.ensures.stays c.check-told.ensures.answer

pub returns-clause-called : goal.returns-clause-called
returns-clause-called g c =
    asks_one _ _ _ _ _ _ _ (placed _ _ _ _ _ _ c.self.view_is c.requires c.index_mut.ensures.value)
    c.answered.ensures c.check-told.ensures.stays
