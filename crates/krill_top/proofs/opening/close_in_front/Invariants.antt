use Rattle.std.proofs.Common.{◌≡◌, ◌≤◌, ◌+◌, ◌++◌, List, vec_len, vec_capacity}
use Rattle.desk_core.specs.View.{View}
use Rattle.krill_top.specs.inner.Opened.{AreClosed}
use Rattle.krill_top.proofs.opening.close_in_front.Given as goal

abbrev pub invariant-loop-desk : goal.invariant-loop-desk
invariant-loop-desk g l = (rest : List (View g.row.D.Denot)) × (closed : List g.row.D.Denot)
    × (l.initial.desks.items ≡ l.desks.items ++ rest)
    × AreClosed g.D.Disk rest closed
    × (l.disks.items ≡ closed ++ l.initial.disks.items)
    × (vec_len l.desks + vec_len l.disks ≤ vec_capacity l.disks)

abbrev pub decreases-loop-desk : goal.decreases-loop-desk
decreases-loop-desk g l = goal.left-loop-desk g l
