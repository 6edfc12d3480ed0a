use Rattle.signer_ring.proofs.Changed.{stays}
use Rattle.signer_ring.proofs.laws.vouched_stays.Goals as goal

pub returns : goal.returns
returns c = stays
