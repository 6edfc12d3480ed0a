use Rattle.std.proofs.Common.{◌≡◌, ◌++◌, take}
use Rattle.std.specs.List.{filter_map}
use Rattle.issue_plan.specs.inner.Changed.{live_id}
use Rattle.issue_plan.proofs.changed.push_issuers_of_roas.Given as goal

abbrev pub invariant-loop-roa : goal.invariant-loop-roa
invariant-loop-roa l =
    l.changed.items ≡ l.fn.changed.items ++ filter_map (λ roa. live_id roa.issuer) (take l.roa-index l.roas)
