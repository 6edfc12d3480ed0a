use Rattle.der.specs.laws.ContentLaws.{one_bits}
use Rattle.der.proofs.laws.one_bits.Goals as goal

pub returns : goal.returns
returns c = one_bits
