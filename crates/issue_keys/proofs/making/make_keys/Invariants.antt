use Rattle.std.proofs.Common.{◌≡◌, length}
use Rattle.signer_ring.specs.Ring.{Keeps}
use Rattle.issue_keys.specs.inner.IdSet.{has}
use Rattle.issue_keys.proofs.Stops.{Making}
use Rattle.issue_keys.proofs.making.make_keys.Given as goal

abbrev pub invariant-loop-new : goal.invariant-loop-new
invariant-loop-new g l = record {
  making : Making l.fn.new_keys l.new-items l.rows (has l.id_set) l.fn.ring l.ring l.fresh.items;
  long : length l.fresh.items ≡ l.new-index;
  kept : Keeps l.fn.ring l.ring;
}
