use Rattle.rp_rules.proofs.Visiting.{visited_once}
use Rattle.rp_rules.proofs.laws.each_uri_is_visited_once.Goals as goal

pub returns : goal.returns
returns c = visited_once
