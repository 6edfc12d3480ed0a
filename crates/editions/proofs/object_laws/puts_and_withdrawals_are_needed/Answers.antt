use Rattle.editions.proofs.ObjectLemmas.Changing.{are-changes}
use Rattle.editions.proofs.object_laws.puts_and_withdrawals_are_needed.Goals as goal

pub returns : goal.returns
returns c = λ s trace old changes table up each other.
    are-changes s trace old table other changes up each
