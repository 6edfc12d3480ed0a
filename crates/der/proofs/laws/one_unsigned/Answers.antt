use Rattle.der.specs.laws.ContentLaws.{one_unsigned}
use Rattle.der.proofs.laws.one_unsigned.Goals as goal

pub returns : goal.returns
returns c = one_unsigned
