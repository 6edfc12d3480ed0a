use Rattle.issue_plan.specs.inner.OwedPlaces.{AreNoted, AreStaying}
use Rattle.issue_plan.proofs.owed_places.note_desk.Given as goal

abbrev pub invariant-loop-position : goal.invariant-loop-position
invariant-loop-position l = record {
  positions : AreNoted l.standing l.owed l.found.positions.items;
  stay : AreStaying l.standing l.keys l.settled l.owed l.found.stay.items;
}
