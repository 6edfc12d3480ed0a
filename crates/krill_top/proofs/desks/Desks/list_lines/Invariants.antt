use Rattle.std.proofs.Common.{◌≡◌, take}
use Rattle.krill_top.specs.DeskStates.{DeskStates}
use Rattle.krill_top.specs.Reads.{list_lines}
use Rattle.krill_top.specs.DesksInStates.{AreIn}
use Rattle.krill_top.proofs.desks.Desks.list_lines.Given as goal

abbrev pub invariant-loop-place : goal.invariant-loop-place
invariant-loop-place g l = (desk_states : DeskStates) → AreIn l.self desk_states → l.lines.items ≡ list_lines desk_states 0 (take l.place l.names)
