use Rattle.press_core.proofs.Following.{prepared-vouched}
use Rattle.press_core.proofs.laws.vouching_signers_vouch_for_editions.Goals as goal

pub returns : goal.returns
returns c = prepared-vouched
