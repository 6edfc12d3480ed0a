use Rattle.der.proofs.Found.{element_in-again, unsigned_in-again, bits_in-again}
use Rattle.der.proofs.laws.spelled_is_read.Goals as goal

pub returns-clause-element : goal.returns-clause-element
returns-clause-element c = element_in-again

pub returns-clause-unsigned : goal.returns-clause-unsigned
returns-clause-unsigned c = unsigned_in-again

pub returns-clause-bits : goal.returns-clause-bits
returns-clause-bits c = bits_in-again
