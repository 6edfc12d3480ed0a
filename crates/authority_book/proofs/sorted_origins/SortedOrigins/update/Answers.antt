use Rattle.authority_book.proofs.Changes.{accepted-distinct, ascending-without, distinct_from_ascending}
use Rattle.authority_book.proofs.sorted_origins.SortedOrigins.update.Goals as goal

pub add_all-requires-clause-ascending : goal.add_all-requires-clause-ascending
add_all-requires-clause-ascending c =
    rw c.remove_all.ensures.items (ascending-without c.args.self.now.items c.args.removed.now c.requires.ascending)

pub add_all-requires-clause-distinct : goal.add_all-requires-clause-distinct
add_all-requires-clause-distinct c =
    rw (c.remove_all.ensures.items, c.as_slice.ensures)
    (accepted-distinct c.args.self.now.items c.args.added.now c.args.removed.now (distinct_from_ascending c.args.self.now.items c.requires.ascending) c.requires.accepted)
