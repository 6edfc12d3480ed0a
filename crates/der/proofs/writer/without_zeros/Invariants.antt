use Rattle.std.proofs.Common.{◌≡◌, drop}
use Rattle.der.specs.inner.Digits.{without_zeros}
use Rattle.der.proofs.writer.without_zeros.Given as goal

abbrev pub invariant-loop-i : goal.invariant-loop-i
invariant-loop-i l = without_zeros (drop l.i l.bytes) ≡ without_zeros l.bytes
