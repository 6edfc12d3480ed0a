use Rattle.std.proofs.Common.{◌≡◌, ◌≤◌, ◌++◌, List, length, vec_len, vec_capacity}
use Rattle.krill_top.specs.inner.Opened.{AreOpened}
use Rattle.krill_top.proofs.opening.open_desks.Given as goal

abbrev pub invariant-loop-number : goal.invariant-loop-number
invariant-loop-number g l = (before : List g.row.D.Denot)
    × (l.fn.disks.items ≡ before ++ l.disks.items)
    × (length before ≡ l.number)
    × AreOpened g.D.Disk 0 before l.desks.items
    × (vec_len l.fn.disks ≤ vec_capacity l.desks)
    × (vec_len l.fn.disks ≤ vec_capacity l.disks)
