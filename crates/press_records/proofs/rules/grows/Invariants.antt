use Rattle.std.proofs.Common.{◌≡◌, length}
use Rattle.press_records.specs.Edition.{grows}
use Rattle.press_records.proofs.rules.grows.Given as goal

abbrev pub invariant-loop-n : goal.invariant-loop-n
invariant-loop-n l = grows l.left l.held ≡ grows l.fn.before l.fn.cut

abbrev pub decreases-loop-n : goal.decreases-loop-n
decreases-loop-n l = length l.left
