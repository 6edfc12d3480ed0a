use Rattle.issue_plan.specs.inner.OwedPlaces.{AreNoted, AreStaying}
use Rattle.issue_plan.proofs.owed_places.noted_by_name.Given as goal

abbrev pub invariant-loop-desk : goal.invariant-loop-desk
invariant-loop-desk l = record {
  positions : AreNoted l.standing l.owed l.found.positions.items;
  stay : AreStaying l.standing l.keys l.settled l.owed l.found.stay.items;
}
