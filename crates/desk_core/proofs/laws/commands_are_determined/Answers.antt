use Rattle.desk_core.proofs.Recorded.{determined}
use Rattle.desk_core.proofs.laws.commands_are_determined.Goals as goal

pub returns : goal.returns
returns c = determined c.spelled_apart.ensures
