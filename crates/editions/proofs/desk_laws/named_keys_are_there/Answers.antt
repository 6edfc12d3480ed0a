use Rattle.editions.proofs.PlanLemmas.There.{are-there}
use Rattle.editions.proofs.desk_laws.named_keys_are_there.Goals as goal

pub returns : goal.returns
returns c = λ plan_input s keys work are. are-there plan_input s work keys are
