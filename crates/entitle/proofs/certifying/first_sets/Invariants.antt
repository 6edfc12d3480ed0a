use Rattle.std.proofs.Common.{◌≡◌, ℕ, ◌<◌, length, get_or, List}
use Rattle.res_sets.specs.declared.numbers.Family.{Family}
use Rattle.res_sets.specs.declared.holdings.Resources.{Resources}
use Rattle.res_sets.specs.Triples.{has}
use Rattle.authority_book.specs.declared.rows.NameRow.{NameRow}
use Rattle.authority_book.specs.Settings.{Settings}
use Rattle.entitle.specs.Certified.{certified}
use Rattle.entitle.proofs.certifying.first_sets.Given as goal

abbrev pub invariant-loop-row : goal.invariant-loop-row
invariant-loop-row l = record {
  one_each : length l.sets.items ≡ l.row-index;
  members : (configs : List Settings) (place : ℕ) (row : NameRow) (set : Resources) → place < l.row-index → (family : Family) (number : ℕ) →
      has (get_or l.sets.items place set) family number ≡ certified configs 0 (get_or l.names place row).name family number;
}
