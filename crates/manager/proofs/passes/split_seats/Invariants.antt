use Rattle.std.proofs.Common.{◌≡◌, map, take}
use Rattle.std.specs.Vec.{vec_capacity}
use Rattle.manager.specs.Passes.{unmade}
use Rattle.manager.proofs.passes.split_seats.Given as goal

abbrev pub invariant-loop-place : goal.invariant-loop-place
invariant-loop-place g l =
    (l.own.items ≡ l.fn.own.items) × (l.into.items ≡ map unmade (take l.place l.fn.own.items))
    × (vec_capacity l.into ≡ vec_capacity l.fn.into)
