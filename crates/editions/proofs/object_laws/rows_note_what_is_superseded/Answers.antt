use Rattle.editions.proofs.ObjectLemmas.Stepped.{step-by}
use Rattle.editions.proofs.object_laws.rows_note_what_is_superseded.Goals as goal

pub returns : goal.returns
returns c = λ premises clock editions edition steps step.
    step-by premises clock editions edition steps step
