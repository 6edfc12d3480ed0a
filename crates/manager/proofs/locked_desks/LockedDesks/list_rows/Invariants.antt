use Rattle.std.proofs.Common.{◌≡◌, length}
use Rattle.manager.specs.Passes.{KnowsMore, anchor_desk}
use Rattle.manager.specs.Lists.{seat_at}
use Rattle.manager.proofs.Reading.{RowsSoFar}
use Rattle.manager.proofs.locked_desks.LockedDesks.list_rows.Given as goal

abbrev pub invariant-loop-desk : goal.invariant-loop-desk
invariant-loop-desk g l =
    (l.pass ≡ record l.fn.pass { seats = l.pass.seats }) × KnowsMore l.fn.pass.seats l.pass.seats
    × (seat_at l.pass.seats anchor_desk ≡ seat_at l.fn.pass.seats anchor_desk)
    × (length l.rows.items ≡ l.desk) × RowsSoFar l.pass.seats l.tree.names.items l.rows.items
