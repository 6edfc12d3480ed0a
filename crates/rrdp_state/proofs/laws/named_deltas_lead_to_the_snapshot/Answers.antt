use Rattle.rrdp_state.proofs.Lasts.{few_named, named_are_last, changes_lead}
use Rattle.rrdp_state.proofs.laws.named_deltas_lead_to_the_snapshot.Goals as goal

pub returns-clause-within : goal.returns-clause-within
returns-clause-within c = few_named

pub returns-clause-deltas : goal.returns-clause-deltas
returns-clause-deltas c = named_are_last

pub returns-clause-applied : goal.returns-clause-applied
returns-clause-applied c = λ editions count follow. changes_lead count editions follow
