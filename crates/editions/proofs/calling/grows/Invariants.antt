use Rattle.std.proofs.Common.{◌≡◌, ℕ, ◌<◌, false, get_or}
use Rattle.std.specs.Prelude.{nat_lt}
use Rattle.editions.proofs.calling.grows.Given as goal

abbrev pub invariant-loop-desk : goal.invariant-loop-desk
invariant-loop-desk l = (k : ℕ) → k < l.desk → nat_lt (get_or l.before k 0) (get_or l.cut k 0) ≡ false
