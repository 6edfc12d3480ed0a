use Rattle.std.proofs.Common.{◌≡◌, ◌-◌, ◌≤◌, ◌++◌, take, drop}
use Rattle.rrdp_state.specs.Named.{fitting}
use Rattle.rrdp_state.proofs.named.fitting_count.Given as goal

abbrev pub invariant-loop-i : goal.invariant-loop-i
invariant-loop-i l = (l.i ≤ 16) × (take l.i l.deltas ++ fitting (16 - l.i) l.left (drop l.i l.deltas) ≡ fitting 16 l.room l.deltas)
