use Rattle.der.proofs.Found.{element_in-alone, unsigned_in-alone, bits_in-alone}
use Rattle.der.proofs.laws.spelled_alone_is_read.Goals as goal

pub returns-clause-element : goal.returns-clause-element
returns-clause-element c = element_in-alone

pub returns-clause-unsigned : goal.returns-clause-unsigned
returns-clause-unsigned c = unsigned_in-alone

pub returns-clause-bits : goal.returns-clause-bits
returns-clause-bits c = bits_in-alone
