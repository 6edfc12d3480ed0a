use Rattle.std.proofs.Common.{◌≡◌, All, true, length}
use Rattle.left_right.specs.Sides.{view}
use Rattle.notice_board.specs.inner.Known.{viewer_of}
use Rattle.notice_board.proofs.board.viewers.Given as goal

abbrev pub invariant-loop : goal.invariant-loop
invariant-loop g l =
    (view l.writer.desk.place ≡ view l.initial.writer.desk.place)
    × (l.writer.desk.shown ≡ l.initial.writer.desk.shown)
    × (l.writer.log ≡ l.initial.writer.log)
    × (l.writer.behind ≡ l.initial.writer.behind)
    × (length l.all.items ≡ l.counter)
    × All (λ viewer. viewer ≡ viewer_of l.initial.writer.desk.shown.value) l.all.items
