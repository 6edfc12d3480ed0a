use Rattle.histories.proofs.Holds.{of_bytes}
use Rattle.histories.proofs.Sizes.{takes}
use Rattle.histories.proofs.laws.what_a_press_holds.Goals as goal

pub returns-clause-bytes : goal.returns-clause-bytes
returns-clause-bytes c = of_bytes c.steps_stay_steps.ensures.one

pub returns-clause-records : goal.returns-clause-records
returns-clause-records c = takes
