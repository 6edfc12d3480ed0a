use Rattle.histories.proofs.Worked.{worked_is_legal}
use Rattle.histories.proofs.laws.some_histories_are_legal.Goals as goal

pub returns : goal.returns
returns c = worked_is_legal
