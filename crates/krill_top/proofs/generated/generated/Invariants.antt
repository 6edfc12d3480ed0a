use Rattle.std.proofs.Common.{◌≡◌}
use Rattle.krill_top.specs.Generated.{generated}
use Rattle.krill_top.proofs.generated.generated.Given as goal

abbrev pub invariant-loop-before : goal.invariant-loop-before
invariant-loop-before l = l.all.items ≡ generated l.before
