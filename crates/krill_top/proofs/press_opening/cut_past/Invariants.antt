use Rattle.std.proofs.Common.{ℕ, ◌<◌, ◌≤◌, length}
use Rattle.std.specs.Prelude.{IfSome, slice_get}
use Rattle.editions.specs.Edition.{cut_at}
use Rattle.krill_top.proofs.press_opening.cut_past.Given as goal

abbrev pub invariant-loop-desk : goal.invariant-loop-desk
invariant-loop-desk g l = (number : ℕ) → number < l.desk → IfSome (slice_get l.desks number) (λ desk. cut_at l.cut number ≤ length desk.records)
