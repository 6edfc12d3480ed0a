use Rattle.std.proofs.Common.{◌≡◌, ℕ, ◌-◌, ◌<◌, ◌≤◌, length, get_or}
use Rattle.res_sets.specs.declared.numbers.Family.{Family}
use Rattle.res_sets.specs.declared.holdings.Resources.{Resources}
use Rattle.res_sets.specs.Triples.{has}
use Rattle.authority_book.specs.declared.rows.NameRow.{NameRow}
use Rattle.entitle.specs.Certified.{settings_of, names_of, certified}
use Rattle.entitle.proofs.certifying.pass_on.Given as goal

-- The names before the place have what comes along one parent more.
abbrev pub invariant-loop-place : goal.invariant-loop-place
invariant-loop-place l =
    let configs = settings_of l.configs in
    record {
      one_each : length l.sets.items ≡ length (names_of configs);
      done : (place : ℕ) (row : NameRow) (set : Resources) → place < l.place → (family : Family) (number : ℕ) →
          has (get_or l.sets.items place set) family number ≡ certified configs l.parents (get_or (names_of configs) place row).name family number;
      left : (place : ℕ) (row : NameRow) (set : Resources) → l.place ≤ place → place < length l.sets.items → (family : Family) (number : ℕ) →
          has (get_or l.sets.items place set) family number ≡ certified configs (l.parents - 1) (get_or (names_of configs) place row).name family number;
    }
