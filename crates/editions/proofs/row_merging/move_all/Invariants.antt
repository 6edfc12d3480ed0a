use Rattle.std.proofs.Common.{◌≡◌, ◌++◌, length}
use Rattle.std.specs.Vec.Iter.{into_iter_items, into_iter_len}
use Rattle.editions.proofs.row_merging.move_all.Given as goal

abbrev pub invariant-loop-row : goal.invariant-loop-row
invariant-loop-row l = record {
  items : l.rows.items ++ into_iter_items l.row-iterator ≡ l.fn.rows.items ++ l.fn.rest.items;
  left : into_iter_len l.row-iterator ≡ length (into_iter_items l.row-iterator);
}
