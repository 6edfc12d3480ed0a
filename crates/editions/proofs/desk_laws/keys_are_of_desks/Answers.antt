use Rattle.editions.proofs.PlanLemmas.Desks.{are-of-desks}
use Rattle.editions.proofs.desk_laws.keys_are_of_desks.Goals as goal

pub returns : goal.returns
returns c = λ plan_input s signers work apart of. are-of-desks plan_input s signers work apart of
