use Rattle.std.proofs.Common.{take}
use Rattle.manager.specs.Reading.{AreShownRoas}
use Rattle.manager.proofs.locked_desks_reads.shown_roas.Given as goal

abbrev pub invariant-loop-origin : goal.invariant-loop-origin
invariant-loop-origin l = AreShownRoas l.fn.row (take l.origin-index l.origins) l.roas.items
