use Rattle.std.proofs.Common.{take}
use Rattle.std.specs.Prelude.{option_copied}
use Rattle.krill_top.specs.Reads.{AreRoaLines}
use Rattle.krill_top.proofs.reads.roa_lines.Given as goal

abbrev pub invariant-loop-origin : goal.invariant-loop-origin
invariant-loop-origin l = AreRoaLines (option_copied l.fn.row) (take l.origin-index l.origins) l.lines.items
