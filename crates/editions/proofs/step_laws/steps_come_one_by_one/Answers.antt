use Rattle.editions.proofs.StepLemmas.Following.{one_more, one_less, last_one}
use Rattle.editions.proofs.step_laws.steps_come_one_by_one.Goals as goal

pub returns-clause-another : goal.returns-clause-another
returns-clause-another c = λ premises clock editions edition steps step.
    one_more premises editions edition clock steps step

pub returns-clause-others : goal.returns-clause-others
returns-clause-others c = λ premises editions edition steps. one_less premises editions edition steps

pub returns-clause-last : goal.returns-clause-last
returns-clause-last c = λ premises editions edition steps. last_one premises editions edition steps
