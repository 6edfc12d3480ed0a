use Rattle.std.proofs.Common.{◌≡◌, ℕ, ◌+◌, ◌<◌, get_or}
use Rattle.std.specs.declared.cmp.Ordering.TheVariants.{Less}
use Rattle.key_roll.specs.declared.issued.IssuedRow.{IssuedRow}
use Rattle.pub_set.specs.Objects.{uri_cmp}
use Rattle.issue_plan.proofs.positions.are_by_uri.Given as goal

abbrev pub invariant-loop-position : goal.invariant-loop-position
invariant-loop-position l = (k : ℕ) (d : IssuedRow) → k + 1 < l.position
    → uri_cmp (get_or l.issued k d).uri (get_or l.issued (k + 1) d).uri ≡ Less
