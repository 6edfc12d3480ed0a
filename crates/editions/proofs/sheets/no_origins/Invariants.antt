use Rattle.std.proofs.Common.{◌≡◌, ℕ, [], length, get_or}
use Rattle.std.specs.Prelude.{map}
use Rattle.editions.proofs.sheets.no_origins.Given as goal

abbrev pub invariant-loop : goal.invariant-loop
invariant-loop l = record {
  count : length l.lists.items ≡ l.counter;
  none : (desk : ℕ) → get_or (map (λ list. list.items) l.lists.items) desk [] ≡ [];
}
