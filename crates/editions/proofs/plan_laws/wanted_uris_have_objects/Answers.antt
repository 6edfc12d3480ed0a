use Rattle.editions.proofs.PlanLemmas.Planning.{wanted-there}
use Rattle.editions.proofs.plan_laws.wanted_uris_have_objects.Goals as goal

pub returns : goal.returns
returns c = λ plan_input work keys plan named owes apart. wanted-there plan_input work keys plan named owes apart
