use Rattle.issue_plan.proofs.PlaceLemmas.{AreFilled}
use Rattle.issue_plan.proofs.owed_places.fill.Given as goal

abbrev pub invariant-loop-index : goal.invariant-loop-index
invariant-loop-index l = AreFilled l.standing l.owed l.positions.items l.index
