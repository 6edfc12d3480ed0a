use Rattle.std.proofs.Common.{◌≡◌, drop}
use Rattle.std.specs.Int.Digits.{number_from_digits_after}
use Rattle.der.specs.Reading.{number}
use Rattle.der.proofs.parts.number.Given as goal

abbrev pub invariant-loop-b : goal.invariant-loop-b
invariant-loop-b l = number_from_digits_after 256 l.n (drop l.b-index l.bytes) ≡ number l.bytes
