use Rattle.std.proofs.Common.{take}
use Rattle.krill_top.specs.inner.Gathered.{AreFirstsOf}
use Rattle.krill_top.proofs.press_opening.firsts_of.Given as goal

abbrev pub invariant-loop-desk : goal.invariant-loop-desk
invariant-loop-desk g l = AreFirstsOf 0 l.desks (take l.desk l.cut) l.firsts.items
