use Rattle.std.proofs.Common.{◌≡◌, ℕ, ◌<◌, get_or}
use Rattle.origins.specs.declared.Origin.{Origin}
use Rattle.key_roll.specs.declared.issued.IssuedRow.{IssuedRow}
use Rattle.key_roll.specs.declared.issued.What.TheVariants.{Route}
use Rattle.issue_plan.specs.ByName.{IsRoaUri}
use Rattle.issue_plan.proofs.by_name.stand_by_name.Given as goal

abbrev pub invariant-loop-row : goal.invariant-loop-row
invariant-loop-row l = (k : ℕ) (d : IssuedRow) → k < l.row-index → (origin : Origin)
    → (get_or l.issued k d).what ≡ Route origin → IsRoaUri l.site origin (get_or l.issued k d).uri
