use Rattle.std.proofs.Common.{◌≡◌, take}
use Rattle.std.specs.Prelude.{filter}
use Rattle.issue_plan.specs.inner.Anew.{is_settled}
use Rattle.issue_plan.proofs.settled.settled_keys.Given as goal

abbrev pub invariant-loop-key : goal.invariant-loop-key
invariant-loop-key l =
    l.settled.items ≡ filter (is_settled l.standing l.certs) (take l.key-index l.standing.live.now)
