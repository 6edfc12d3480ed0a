use Rattle.std.proofs.Common.{take}
use Rattle.krill_top.specs.inner.Gathered.{AreSince}
use Rattle.krill_top.proofs.desks.Desks.since_cut.Given as goal

abbrev pub invariant-loop-desk : goal.invariant-loop-desk
invariant-loop-desk g l = AreSince 0 (take l.desk l.self) (take l.desk l.cut) l.gathered.items
