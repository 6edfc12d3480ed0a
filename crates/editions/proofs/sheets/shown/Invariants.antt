use Rattle.std.proofs.Common.{◌≡◌, ℕ, ◌<◌, ◌+◌, ◌++◌, [], length, get_or, drop, map}
use Rattle.std.specs.Vec.Iter.{into_iter_items, into_iter_len}
use Rattle.editions.specs.PublishedState.{value_of}
use Rattle.editions.specs.Sheets.{shown_from, origins_at}
use Rattle.editions.proofs.sheets.shown.Given as goal

abbrev pub invariant-loop-list : goal.invariant-loop-list
invariant-loop-list l = record {
  rows : l.rows.items ++ shown_from (value_of l.parts) (length l.rows.items) (drop (length l.rows.items) l.parts.tree.sets.items)
      ≡ shown_from (value_of l.parts) 0 l.parts.tree.sets.items;
  lists : (k : ℕ) → k < length (into_iter_items l.list-iterator)
      → get_or (map (λ list. list.items) (into_iter_items l.list-iterator)) k [] ≡ origins_at l.parts.owed (length l.rows.items + k);
  count : length l.rows.items + length (into_iter_items l.list-iterator) ≡ length l.parts.tree.sets.items;
  left : into_iter_len l.list-iterator ≡ length (into_iter_items l.list-iterator);
}
