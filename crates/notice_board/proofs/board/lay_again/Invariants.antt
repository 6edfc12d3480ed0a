use Rattle.std.proofs.Common.{◌≡◌, drop}
use Rattle.notice_board.specs.inner.Known.{coming}
use Rattle.notice_board.proofs.board.lay_again.Given as goal

abbrev pub invariant-loop : goal.invariant-loop
invariant-loop l =
    (l.writer.desk ≡ l.initial.writer.desk)
    × (coming l.writer.desk.shown.value (drop l.writer.behind l.writer.log.items) ≡ l.writer.desk.shown.value)
