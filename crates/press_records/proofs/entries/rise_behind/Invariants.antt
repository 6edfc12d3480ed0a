use Rattle.std.proofs.Common.{◌≡◌, length}
use Rattle.press_records.specs.Rows.{rise_behind}
use Rattle.press_records.proofs.entries.rise_behind.Given as goal

abbrev pub invariant-loop-first : goal.invariant-loop-first
invariant-loop-first l = rise_behind l.last l.rest ≡ rise_behind l.fn.serial l.fn.entries

abbrev pub decreases-loop-first : goal.decreases-loop-first
decreases-loop-first l = length l.rest
