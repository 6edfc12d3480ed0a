use Rattle.std.proofs.Common.{ℕ, ◌<◌, get_or}
use Rattle.pub_set.specs.declared.steps.Change.{Change}
use Rattle.editions.specs.PlannedAndMade.{CanBeRead}
use Rattle.press_core.proofs.making.can_all_be_read.Given as goal

abbrev pub invariant-loop-change : goal.invariant-loop-change
invariant-loop-change l = (k : ℕ) (d : Change) → k < l.change-index → CanBeRead (get_or l.changes k d)
