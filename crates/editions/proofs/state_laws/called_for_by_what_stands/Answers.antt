use Rattle.editions.proofs.StateLemmas.Called.{called-same}
use Rattle.editions.proofs.state_laws.called_for_by_what_stands.Goals as goal

pub returns : goal.returns
returns c = called-same
