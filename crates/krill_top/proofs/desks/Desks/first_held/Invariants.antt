use Rattle.krill_top.proofs.Holding.{NoneBefore}
use Rattle.krill_top.proofs.desks.Desks.first_held.Given as goal

abbrev pub invariant-loop-desk : goal.invariant-loop-desk
invariant-loop-desk g l = NoneBefore l.self l.desk
