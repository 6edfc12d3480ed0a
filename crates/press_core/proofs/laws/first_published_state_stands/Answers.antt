use Rattle.press_core.proofs.Standing.{first-stands}
use Rattle.press_core.proofs.laws.first_published_state_stands.Goals as goal

pub returns : goal.returns
returns c = first-stands
