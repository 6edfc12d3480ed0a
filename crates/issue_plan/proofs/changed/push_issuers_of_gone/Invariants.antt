use Rattle.std.proofs.Common.{◌≡◌, ◌++◌, take}
use Rattle.issue_plan.specs.inner.Positions.{unmarked}
use Rattle.issue_plan.specs.inner.Changed.{issuers_of_gone}
use Rattle.issue_plan.proofs.changed.push_issuers_of_gone.Given as goal

abbrev pub invariant-loop-position : goal.invariant-loop-position
invariant-loop-position l =
    l.changed.items ≡ l.fn.changed.items ++ issuers_of_gone (unmarked (take l.position l.marks) (take l.position l.issued))
