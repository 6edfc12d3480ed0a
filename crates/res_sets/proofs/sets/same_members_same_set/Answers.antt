use Rattle.res_sets.proofs.Canonical.{same_sets}
use Rattle.res_sets.proofs.sets.same_members_same_set.Goals as goal

pub returns : goal.returns
returns c = same_sets
