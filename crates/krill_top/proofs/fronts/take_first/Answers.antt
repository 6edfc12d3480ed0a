use Rattle.std.proofs.Common.{◌<◌, length, rules}
use Rattle.krill_top.proofs.Removed.{first_removed}
use Rattle.krill_top.proofs.fronts.take_first.Goals as goal

pub returns-clause-items : goal.returns-clause-items
returns-clause-items g c =
    let some : 0 < length c.args.list.now.items = search rules in
    first_removed c.args.list.now.items c.remove.new.self.items c.remove.result c.remove.ensures.value c.remove.ensures.items some
