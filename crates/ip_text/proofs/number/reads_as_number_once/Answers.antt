use Rattle.ip_text.specs.laws.AsNumberLaws.{one_as_number}
use Rattle.ip_text.proofs.number.reads_as_number_once.Goals as goal

pub returns : goal.returns
returns c = one_as_number
