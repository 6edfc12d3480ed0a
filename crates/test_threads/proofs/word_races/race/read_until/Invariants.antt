use Rattle.std.proofs.Common.{◌≡◌}
use Rattle.test_threads.proofs.word_races.race.read_until.Given as goal

abbrev pub invariant-loop : goal.invariant-loop
invariant-loop g l =
    (goal.iterator-loop g).can_next l.iterator' × (goal.iterator-loop g).is_finite l.iterator'
    × (l.seat.word ≡ l.word)
