use Rattle.rp_rules.proofs.Asking.{same_walk}
use Rattle.rp_rules.proofs.laws.asked_signatures_decide.Goals as goal

pub returns : goal.returns
returns c = same_walk
