use Rattle.std.proofs.Common.{◌≡◌, length}
use Rattle.std.specs.Vec.Iter.{into_iter_items, into_iter_len}
use Rattle.issue_sign.proofs.PhaseEnds.{AreHalved}
use Rattle.issue_sign.proofs.halves.halves.Given as goal

abbrev pub invariant-loop-step : goal.invariant-loop-step
invariant-loop-step l = record {
  count : into_iter_len l.step-iterator ≡ length (into_iter_items l.step-iterator);
  halved : AreHalved l.moment l.fn.steps.items l.answers l.halves.items (into_iter_items l.step-iterator) l.left;
}
