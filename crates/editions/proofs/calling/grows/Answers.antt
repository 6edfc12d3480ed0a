use Rattle.std.proofs.Common.{◌<◌, get_or, arith}
use Rattle.editions.proofs.StateLemmas.Dues.{some_at}
use Rattle.editions.proofs.calling.grows.Goals as goal

pub returns-then-cut_at : goal.returns-then-cut_at
returns-then-cut_at c =
    let less : get_or c.args.before.now c.loop-desk.desk 0 < get_or c.args.cut.now c.loop-desk.desk 0 =
    omega (arith, c.if-cut_at.true, c.cut_at.ensures, c.cut_at-in-loop-desk.ensures) in
    some_at c.args.before.now c.args.cut.now c.loop-desk.desk (omega arith) less
