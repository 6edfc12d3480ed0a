use Rattle.std.proofs.Common.{ℕ, List, ◌++◌, take}
use Rattle.std.specs.List.{filter_map}
use Rattle.issue_plan.specs.inner.Positions.{AreMarks}
use Rattle.issue_plan.proofs.positions.mark_found.Given as goal

abbrev pub invariant-loop-position : goal.invariant-loop-position
invariant-loop-position l = (count : ℕ) (positions : List ℕ) → AreMarks count positions l.fn.marks.items
    → AreMarks count (positions ++ filter_map (λ p. p) (take l.position-index l.found)) l.marks.items
