use Rattle.issue_plan.specs.inner.OwedPlaces.{IsFolder, AreNoted}
use Rattle.issue_plan.proofs.owed_places.noted.Given as goal

abbrev pub invariant-loop-position : goal.invariant-loop-position
invariant-loop-position l = record {
  folder : IsFolder l.standing l.folder;
  noted : AreNoted l.standing l.owed l.noted.items;
}
