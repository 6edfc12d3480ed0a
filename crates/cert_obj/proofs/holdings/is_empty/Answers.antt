use Rattle.cert_obj.proofs.Leaves.{empty-told}
use Rattle.cert_obj.proofs.holdings.is_empty.Goals as goal

pub returns : goal.returns
returns c = empty-told c.args.set.now.ranges c.is_empty.result c.is_empty.ensures.ranges.0 c.is_empty.ensures.ranges.1
