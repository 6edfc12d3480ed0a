use Rattle.editions.proofs.PlanLemmas.Makings.{keys-live}
use Rattle.editions.proofs.plan_laws.made_keys_are_live.Goals as goal

pub returns : goal.returns
returns c = λ at site signers basis work old new made published_state follow is_plan making.
    keys-live c.the_plans_keys_are_next.ensures at site signers basis work old new made published_state follow is_plan making
