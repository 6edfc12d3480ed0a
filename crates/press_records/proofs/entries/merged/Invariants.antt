use Rattle.std.proofs.Common.{◌≡◌, ◌++◌, ◌+◌, length}
use Rattle.press_records.specs.Rows.{merged}
use Rattle.press_records.proofs.entries.merged.Given as goal

abbrev pub invariant-loop-next : goal.invariant-loop-next
invariant-loop-next l = l.entries.items ++ merged l.ones l.others ≡ merged l.fn.carried l.fn.added

abbrev pub decreases-loop-next : goal.decreases-loop-next
decreases-loop-next l = length l.ones + length l.others
