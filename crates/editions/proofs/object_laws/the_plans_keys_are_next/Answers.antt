use Rattle.editions.proofs.ObjectLemmas.Planned.{of-plan}
use Rattle.editions.proofs.object_laws.the_plans_keys_are_next.Goals as goal

pub returns : goal.returns
returns c = λ plan_input work found apart is_work are. of-plan plan_input work found apart is_work are
