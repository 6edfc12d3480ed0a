use Rattle.der.proofs.Found.{element_in-taken, unsigned_in-taken, bits_in-taken}
use Rattle.der.proofs.laws.read_is_spelled.Goals as goal

pub returns-clause-element : goal.returns-clause-element
returns-clause-element c = element_in-taken

pub returns-clause-unsigned : goal.returns-clause-unsigned
returns-clause-unsigned c = unsigned_in-taken

pub returns-clause-bits : goal.returns-clause-bits
returns-clause-bits c = bits_in-taken
