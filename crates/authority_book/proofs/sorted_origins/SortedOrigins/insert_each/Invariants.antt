use Rattle.std.proofs.Common.{◌≡◌, ◌≤◌, ◌+◌, take}
use Rattle.authority_book.specs.Origins.{with_each, IsAscending}
use Rattle.authority_book.proofs.sorted_origins.SortedOrigins.insert_each.Given as goal

abbrev pub invariant-loop-origin : goal.invariant-loop-origin
invariant-loop-origin l = record {
  ascending : IsAscending l.self.items;
  items : l.self.items ≡ with_each l.fn.self.items (take l.origin-index l.added);
  room : l.fn.self.room ≤ l.self.room + l.origin-index;
}
