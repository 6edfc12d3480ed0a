use Rattle.rrdp_state.proofs.Keeping.{stands_next}
use Rattle.rrdp_state.proofs.state.Rrdp.advance.Goals as goal

pub returns-clause-stands : goal.returns-clause-stands
returns-clause-stands c = λ repository older edition stands follow same delta.
    stands_next repository older edition _ _ _ _ stands follow same delta c.take_in.ensures
