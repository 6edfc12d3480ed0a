use Rattle.std.proofs.Common.{◌≡◌, take}
use Rattle.std.specs.List.{flat_map}
use Rattle.issue_plan.proofs.DropLemmas.{if_ended}
use Rattle.issue_plan.proofs.plans.dropped.Given as goal

abbrev pub invariant-loop-key : goal.invariant-loop-key
invariant-loop-key l = l.dropped.items ≡ flat_map (if_ended l.keys) (take l.key-index l.live)
