use Rattle.rp_rules.proofs.Spans.{span_by_numbers}
use Rattle.rp_rules.proofs.laws.spans_are_had_by_numbers.Goals as goal

pub returns : goal.returns
returns c = span_by_numbers
