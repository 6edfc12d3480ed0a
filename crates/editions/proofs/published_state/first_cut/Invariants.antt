use Rattle.std.proofs.Common.{◌≡◌, length}
use Rattle.std.specs.Prelude.{All}
use Rattle.editions.proofs.published_state.first_cut.Given as goal

abbrev pub invariant-loop : goal.invariant-loop
invariant-loop l = record {
  count : length l.cut.items ≡ l.counter;
  none : All (λ n. n ≡ 0) l.cut.items;
}
