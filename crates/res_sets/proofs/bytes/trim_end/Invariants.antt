use Rattle.std.proofs.Common.{◌≡◌, length}
use Rattle.res_sets.specs.Blocks.{without_trailing}
use Rattle.res_sets.proofs.bytes.trim_end.Given as goal

abbrev pub invariant-loop-last : goal.invariant-loop-last
invariant-loop-last l = without_trailing l.rest ≡ without_trailing l.fn.text

abbrev pub decreases-loop-last : goal.decreases-loop-last
decreases-loop-last l = length l.rest
