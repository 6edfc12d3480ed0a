use Rattle.press_core.proofs.Standing.{more-published}
use Rattle.press_core.proofs.laws.more_commands_stay_published.Goals as goal

pub returns : goal.returns
returns c = more-published
