use Rattle.editions.specs.Edition.{first_state}
use Rattle.editions.proofs.StepLemmas.Following.{state_on}
use Rattle.editions.proofs.step_laws.editions_follow_one_another.Goals as goal

pub returns : goal.returns
returns c = λ before later. state_on first_state before later
