use Rattle.std.proofs.Common.{take}
use Rattle.test_histories.specs.Gathered.{AreSince}
use Rattle.test_histories.proofs.store.gather.Given as goal

abbrev pub invariant-loop-desk : goal.invariant-loop-desk
invariant-loop-desk l = AreSince 0 (take l.desk l.store.desks.items) (take l.desk l.cut) l.gathered.items
