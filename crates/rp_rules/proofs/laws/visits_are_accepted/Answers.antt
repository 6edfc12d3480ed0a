use Rattle.rp_rules.proofs.Accepting.{all_accepted}
use Rattle.rp_rules.proofs.laws.visits_are_accepted.Goals as goal

pub returns : goal.returns
returns c = all_accepted
