use Rattle.std.proofs.Common.{◌≡◌}
use Rattle.notice_board.proofs.board.lay.Given as goal

abbrev pub invariant-loop : goal.invariant-loop
invariant-loop g l =
    (goal.iterator-loop g).can_next l.iterator' × (goal.iterator-loop g).is_finite l.iterator'
    × (l.writer.desk ≡ l.initial.writer.desk) × (l.notice ≡ l.initial.notice)
