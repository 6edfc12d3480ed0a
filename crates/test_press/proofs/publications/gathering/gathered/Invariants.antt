use Rattle.std.proofs.Common.{◌≡◌, ◌≢◌, ◌<◌}
use Rattle.std.specs.Prelude.{All, AllPairs}
use Rattle.editions.specs.Edition.{cut_at}
use Rattle.editions.specs.Gathering.{AreAccepted}
use Rattle.test_press.proofs.publications.gathering.gathered.Given as goal

abbrev pub invariant-loop-desk : goal.invariant-loop-desk
invariant-loop-desk l = record {
  below : All (λ group. group.desk < l.desk) l.gathered.items;
  once : AllPairs (λ a b. a.desk ≢ b.desk) l.gathered.items;
  from : All (λ group. group.from ≡ cut_at l.at.cut group.desk) l.gathered.items;
  accepted : AreAccepted l.at.configs l.gathered.items;
}
