use Rattle.std.proofs.Common.{◌≡◌, length}
use Rattle.press_records.specs.Edition.{are_apart}
use Rattle.press_records.proofs.rules.are_apart.Given as goal

abbrev pub invariant-loop-id : goal.invariant-loop-id
invariant-loop-id l = are_apart l.left ≡ are_apart l.fn.ids

abbrev pub decreases-loop-id : goal.decreases-loop-id
decreases-loop-id l = length l.left
