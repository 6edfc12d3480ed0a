use Rattle.std.proofs.Common.{◌≡◌, ◌++◌, ℕ, List, length}
use Rattle.std.specs.List.{AllByRecursion}
use Rattle.std.specs.Vec.Iter.{into_iter_items, into_iter_len}
use Rattle.pub_set.specs.Objects.{Rise, AllBelow}
use Rattle.editions.specs.declared.standing.NextRow.{NextRow}
use Rattle.editions.specs.Joining.{at_uri}
use Rattle.editions.specs.Standing.{row_at, next_uri, next_row}
use Rattle.editions.proofs.StateLemmas.Tabled.{row_uri}
use Rattle.editions.proofs.row_merging.merged.Given as goal

abbrev pub invariant-loop-one : goal.invariant-loop-one
invariant-loop-one l = record {
  rows_rise : Rise row_uri (l.rows.items ++ l.rest.items);
  rest_rise : Rise next_uri (into_iter_items l.one-iterator);
  behind : AllByRecursion (λ (next : NextRow). AllBelow row_uri l.rows.items (next_uri next)) (into_iter_items l.one-iterator);
  each : (at : List ℕ) → next_row (row_at (l.rows.items ++ l.rest.items) at) (at_uri next_uri (into_iter_items l.one-iterator) at) ≡ next_row (row_at l.fn.old.items at) (at_uri next_uri l.fn.coming.items at);
  left : into_iter_len l.one-iterator ≡ length (into_iter_items l.one-iterator);
}
