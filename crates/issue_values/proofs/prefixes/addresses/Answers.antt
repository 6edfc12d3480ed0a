use Rattle.issue_values.proofs.Spans.{ends, last-is}
use Rattle.issue_values.proofs.prefixes.addresses.Goals as goal

pub returns-clause-span : goal.returns-clause-span
returns-clause-span c =
    ends c.args.prefix.now c.first.result c.last.result c.first.ensures.value
    (last-is _ _ _ _ c.args.prefix.now.prefix c.last.ensures.member c.last.ensures.greatest)
