use Rattle.press_core.proofs.Standing.{more-left, more-stands}
use Rattle.press_core.proofs.laws.more_commands_stand.Goals as goal

pub returns-clause-left : goal.returns-clause-left
returns-clause-left c = more-left

pub returns-clause-stands : goal.returns-clause-stands
returns-clause-stands c = more-stands c.steps_stay_steps.ensures.all
