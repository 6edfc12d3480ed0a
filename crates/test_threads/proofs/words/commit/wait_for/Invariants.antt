use Rattle.std.proofs.Common.{◌≡◌}
use mathlib.Core.List.{IsPrefix}
use Rattle.test_threads.proofs.words.commit.wait_for.Given as goal

abbrev pub invariant-loop : goal.invariant-loop
invariant-loop g l =
    (goal.iterator-loop g).can_next l.iterator' × (goal.iterator-loop g).is_finite l.iterator'
    × (l.caller ≡ record l.initial.caller { seen = l.caller.seen }) × IsPrefix l.initial.caller.seen l.caller.seen
