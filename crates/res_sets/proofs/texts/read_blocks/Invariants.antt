use Rattle.std.proofs.Common.{length}
use Rattle.res_sets.proofs.Parts.{Reading}
use Rattle.res_sets.proofs.texts.read_blocks.Given as goal

abbrev pub invariant-loop-block : goal.invariant-loop-block
invariant-loop-block l = Reading l.fn.family l.fn.text l.rest l.at l.ranges.items

abbrev pub decreases-loop-block : goal.decreases-loop-block
decreases-loop-block l = length l.rest
