use Rattle.std.proofs.Common.{arith}
use Rattle.rp_audit.proofs.Steps.{closed_set, closed_past}
use Rattle.rp_audit.proofs.walking.close_point.Goals as goal

pub returns-then-place-len-clause-points : goal.returns-then-place-len-clause-points
returns-then-place-len-clause-points c =
    closed_set c.args.noted.now.points.items c.args.place c.args.serial c.index_mut.result.now (omega arith) c.index_mut.ensures.value

pub returns-else-place-len-clause-points : goal.returns-else-place-len-clause-points
returns-else-place-len-clause-points c = closed_past c.args.noted.now.points.items c.args.place c.args.serial (omega arith)
