use Rattle.histories.proofs.Working.{goes_on}
use Rattle.histories.proofs.laws.what_was_done_goes_on.Goals as goal

pub returns : goal.returns
returns c = λ site history signed work legal found is. goes_on c.steps_stay_steps.ensures.one site history signed work legal found is
