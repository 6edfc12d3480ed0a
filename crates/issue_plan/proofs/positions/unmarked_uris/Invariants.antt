use Rattle.std.proofs.Common.{◌≡◌, map, take}
use Rattle.issue_plan.specs.inner.Positions.{unmarked}
use Rattle.issue_plan.proofs.positions.unmarked_uris.Given as goal

abbrev pub invariant-loop-position : goal.invariant-loop-position
invariant-loop-position l =
    l.uris.items ≡ map (λ row. row.uri) (unmarked (take l.position l.marks) (take l.position l.issued))
