use Rattle.std.proofs.Common.{◌≡◌, ◌==◌, length, rules}
use Rattle.res_sets.proofs.Lists.{none_iff_nil}
use Rattle.res_sets.proofs.sets.Ranges.is_empty.Goals as goal

pub returns-clause-members : goal.returns-clause-members
returns-clause-members c =
    let is : c.is_empty.result ≡ (length c.self.inside.ranges.items == 0) = search rules in
    rw (← c.self.view_is) (none_iff_nil c.self.inside.ranges.items c.is_empty.result is)
