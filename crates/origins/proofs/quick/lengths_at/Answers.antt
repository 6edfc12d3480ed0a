use Rattle.origins.proofs.Begun.{lengths_begin}
use Rattle.origins.proofs.quick.lengths_at.Goals as goal

pub returns : goal.returns
returns c = lengths_begin _ _ _ _ _ _ _ c.in_ok-length.ensures c.in-Some.ensures c.in_ok-maximum.ensures c.from.ensures
