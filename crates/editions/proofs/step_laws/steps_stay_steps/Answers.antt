use Rattle.editions.proofs.StepLemmas.More.{step_then, steps_then}
use Rattle.editions.proofs.step_laws.steps_stay_steps.Goals as goal

pub returns-clause-one : goal.returns-clause-one
returns-clause-one c = λ less more clock editions edition is_more step.
    step_then less more is_more clock editions edition step

pub returns-clause-all : goal.returns-clause-all
returns-clause-all c = λ less more editions is_more steps.
    steps_then less more is_more editions steps
