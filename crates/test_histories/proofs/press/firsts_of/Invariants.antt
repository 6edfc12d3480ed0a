use Rattle.std.proofs.Common.{take}
use Rattle.test_histories.specs.Gathered.{AreFirstsOf}
use Rattle.test_histories.proofs.press.firsts_of.Given as goal

abbrev pub invariant-loop-desk : goal.invariant-loop-desk
invariant-loop-desk l = AreFirstsOf 0 l.desks (take l.desk l.cut) l.firsts.items
