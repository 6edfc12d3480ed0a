use Rattle.der.specs.laws.ElementLaws.{one_element}
use Rattle.der.proofs.laws.one_element.Goals as goal

pub returns : goal.returns
returns c = one_element
