use Rattle.rp_rules.proofs.Visiting.{listed_reached}
use Rattle.rp_rules.proofs.laws.listed_files_are_visited.Goals as goal

pub returns : goal.returns
returns c = listed_reached
