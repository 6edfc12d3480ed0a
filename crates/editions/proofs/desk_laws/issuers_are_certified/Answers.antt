use Rattle.editions.proofs.PlanLemmas.Certified.{are-certified}
use Rattle.editions.proofs.PlanLemmas.Planning.{known-by}
use Rattle.editions.proofs.desk_laws.issuers_are_certified.Goals as goal

pub returns : goal.returns
returns c = λ plan_input work keys plan named owes apart plain can_be_named.
    are-certified plan_input work keys plan (known-by plan_input work keys plan named owes apart) apart plain can_be_named
