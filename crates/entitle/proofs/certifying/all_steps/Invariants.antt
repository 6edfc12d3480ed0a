use Rattle.std.proofs.Common.{◌≡◌, ℕ, ◌<◌, length, get_or}
use Rattle.std.specs.Prelude.{None}
use Rattle.authority_book.specs.declared.rows.NameRow.{NameRow}
use Rattle.entitle.specs.Certified.{settings_of}
use Rattle.entitle.specs.inner.Steps.{IsSteps}
use Rattle.entitle.proofs.certifying.all_steps.Given as goal

abbrev pub invariant-loop-row : goal.invariant-loop-row
invariant-loop-row l = record {
  one_each : length l.steps.items ≡ l.row-index;
  each : (place : ℕ) (row : NameRow) → place < l.row-index → IsSteps (settings_of l.configs) (get_or l.names place row).name (get_or l.steps.items place None);
}
