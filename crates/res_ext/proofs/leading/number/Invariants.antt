use Rattle.std.proofs.Common.{◌≡◌, take}
use Rattle.std.specs.Int.Digits.{number_from_digits}
use Rattle.res_ext.proofs.leading.number.Given as goal

abbrev pub invariant-loop-b : goal.invariant-loop-b
invariant-loop-b l = l.n ≡ number_from_digits 256 (take l.b-index l.bytes)
