use Rattle.std.specs.Prelude.{take}
use Rattle.editions.specs.Edition.{state_after}
use Rattle.editions.proofs.StepLemmas.Following.{serials_count, later_than}
use Rattle.editions.proofs.step_laws.steps_count_up.Goals as goal

pub returns-clause-serials : goal.returns-clause-serials
returns-clause-serials c = λ premises editions steps. serials_count premises editions steps

pub returns-clause-moments : goal.returns-clause-moments
returns-clause-moments c = λ premises editions position edition steps there.
    let step = steps position edition there in
    rw (step.1.moment) (later_than step.0 (state_after (take position editions)))
