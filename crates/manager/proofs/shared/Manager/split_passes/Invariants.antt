use Rattle.std.proofs.Common.{◌≡◌, ◌+◌, length}
use Rattle.std.specs.Prelude.{All}
use Rattle.std.specs.Vec.{vec_capacity}
use Rattle.manager.specs.Passes.{IsSplitOff}
use Rattle.manager.proofs.shared.Manager.split_passes.Given as goal

abbrev pub invariant-loop : goal.invariant-loop
invariant-loop g l = record {
  long : length l.others.items ≡ l.counter;
  room : vec_capacity l.others ≡ vec_capacity l.initial.others;
  rest : l.pass ≡ record l.fn.pass { places = l.pass.places };
  places : l.pass.places + l.counter ≡ l.fn.pass.places;
  given : All (IsSplitOff l.fn.pass) l.others.items;
}
