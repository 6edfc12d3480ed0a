use Rattle.std.proofs.Common.{◌≡◌, ◌++◌}
use Rattle.std.specs.VecDeque.{deque_len}
use Rattle.pub_set.specs.Objects.{AllBelow}
use Rattle.editions.proofs.StateLemmas.Tabled.{row_uri}
use Rattle.editions.proofs.row_merging.move_below.Given as goal

abbrev pub invariant-loop-row : goal.invariant-loop-row
invariant-loop-row l = record {
  items : l.rows.items ++ l.rest.items ≡ l.fn.rows.items ++ l.fn.rest.items;
  behind : AllBelow row_uri l.rows.items l.uri;
}

abbrev pub decreases-loop-row : goal.decreases-loop-row
decreases-loop-row l = deque_len l.rest
