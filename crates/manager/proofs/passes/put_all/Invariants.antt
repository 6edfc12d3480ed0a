use Rattle.std.proofs.Common.{◌≡◌}
use Rattle.manager.proofs.passes.put_all.Given as goal

abbrev pub invariant-loop : goal.invariant-loop
invariant-loop g l =
    (goal.iterator-loop g).can_next l.iterator' × (goal.iterator-loop g).is_finite l.iterator'
    × (l.spare.items ≡ l.initial.spare.items) × (l.more.items ≡ l.initial.more.items)
