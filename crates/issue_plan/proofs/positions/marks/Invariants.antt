use Rattle.std.proofs.Common.{take}
use Rattle.issue_plan.specs.inner.Positions.{AreMarks}
use Rattle.issue_plan.proofs.positions.marks.Given as goal

abbrev pub invariant-loop-position : goal.invariant-loop-position
invariant-loop-position l = AreMarks l.count (take l.position-index l.positions) l.marks.items
