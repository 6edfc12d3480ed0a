use Rattle.press_core.proofs.Standing.{told-vouched}
use Rattle.press_core.proofs.laws.telling_signers_vouch.Goals as goal

pub returns : goal.returns
returns c = told-vouched
