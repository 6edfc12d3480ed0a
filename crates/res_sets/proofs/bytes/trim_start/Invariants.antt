use Rattle.std.proofs.Common.{◌≡◌, length}
use Rattle.res_sets.specs.Blocks.{without_leading}
use Rattle.res_sets.proofs.bytes.trim_start.Given as goal

abbrev pub invariant-loop-first : goal.invariant-loop-first
invariant-loop-first l = without_leading l.rest ≡ without_leading l.fn.text

abbrev pub decreases-loop-first : goal.decreases-loop-first
decreases-loop-first l = length l.rest
