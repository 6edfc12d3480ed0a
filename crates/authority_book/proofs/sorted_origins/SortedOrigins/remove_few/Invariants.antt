use Rattle.std.proofs.Common.{◌≡◌, ◌≤◌, take}
use Rattle.authority_book.specs.Origins.{without, IsAscending}
use Rattle.authority_book.proofs.sorted_origins.SortedOrigins.remove_few.Given as goal

abbrev pub invariant-loop-origin : goal.invariant-loop-origin
invariant-loop-origin l = record {
  ascending : IsAscending l.self.items;
  items : l.self.items ≡ without l.fn.self.items (take l.origin-index l.removed);
  room : l.fn.self.room ≤ l.self.room;
}
