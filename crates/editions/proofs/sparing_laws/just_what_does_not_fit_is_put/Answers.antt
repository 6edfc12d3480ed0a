use Rattle.editions.proofs.ObjectLemmas.Sparing.{puts-unfit}
use Rattle.editions.proofs.sparing_laws.just_what_does_not_fit_is_put.Goals as goal

pub returns : goal.returns
returns c = λ premises clock editions edition steps step. puts-unfit premises clock editions edition steps step
