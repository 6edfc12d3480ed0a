use Rattle.manager.proofs.Looking.{HasLooked}
use Rattle.manager.proofs.shared.Manager.await_edition.Given as goal

abbrev pub invariant-loop : goal.invariant-loop
invariant-loop g l = record {
  so : HasLooked l.fn.pass l.pass l.seen;
}
