use Rattle.std.proofs.Common.{◌∷◌, arith}
use Rattle.der.specs.Spelling.{bits_spelling, unsigned_spelling, unsigned_content}
use Rattle.der.specs.laws.ElementLaws.{longer}
use Rattle.der.specs.laws.ContentLaws.{some-content}
use Rattle.der.proofs.laws.longer_than_content.Goals as goal

pub returns-clause-element : goal.returns-clause-element
returns-clause-element c = longer

pub returns-clause-bits : goal.returns-clause-bits
unfolding bits_spelling
returns-clause-bits c unused bytes = omega (arith, longer 3 (unused ∷ bytes))

pub returns-clause-unsigned : goal.returns-clause-unsigned
unfolding unsigned_spelling
returns-clause-unsigned c n = omega (arith, longer 2 (unsigned_content n), some-content n)
