use Rattle.rp_rules.proofs.Spans.{inside_by_numbers}
use Rattle.rp_rules.proofs.laws.sets_are_inside_by_numbers.Goals as goal

pub returns : goal.returns
returns c = inside_by_numbers
