use Rattle.editions.proofs.StepLemmas.Sets.{left}
use Rattle.editions.proofs.step_laws.editions_leave_a_set.Goals as goal

pub returns : goal.returns
returns c = left c.changes_leave_a_set.ensures
