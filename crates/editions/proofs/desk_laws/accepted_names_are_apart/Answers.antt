use Rattle.editions.proofs.PlanLemmas.Accepted.{accepted-tree}
use Rattle.editions.proofs.desk_laws.accepted_names_are_apart.Goals as goal

pub returns : goal.returns
returns c = accepted-tree
