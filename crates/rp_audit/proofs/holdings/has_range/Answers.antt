use Rattle.rp_audit.proofs.Spans.{range_held}
use Rattle.rp_audit.proofs.holdings.has_range.Goals as goal

pub returns : goal.returns
returns c = range_held c.args.set.now.ranges c.args.range.now c.holds_range.result c.as_slice-ranges.ensures.canonical.rise c.holds_range.ensures
