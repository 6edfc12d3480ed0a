use Rattle.std.proofs.Common.{◌≡◌, length}
use Rattle.test_histories.specs.Standing.{AreNew}
use Rattle.test_histories.proofs.desks.new_desks.Given as goal

abbrev pub invariant-loop-number : goal.invariant-loop-number
invariant-loop-number l = AreNew 0 l.desks.items × (length l.desks.items ≡ l.number)
