use Rattle.std.proofs.Common.{◌≡◌, map, take}
use Rattle.issue_plan.specs.inner.Beside as spec
use Rattle.issue_plan.proofs.beside.beside_roas.Given as goal

abbrev pub invariant-loop-row : goal.invariant-loop-row
invariant-loop-row l = map (λ row. row.now) l.beside.items ≡ spec.beside_roas (take l.row-index l.issued)
