use Rattle.std.proofs.Common.{◌≡◌, length}
use Rattle.std.specs.Prelude.{None}
use Rattle.std.specs.Vec.Iter.{into_iter_items, into_iter_len}
use Rattle.session_lines.specs.Keeping.{nothing_kept}
use Rattle.krill_top.specs.SharedRuns.{gravest_from, kept_from}
use Rattle.krill_top.proofs.sharing.sum_up.Given as goal

abbrev pub invariant-loop-outcome : goal.invariant-loop-outcome
invariant-loop-outcome g l = record {
  fault : gravest_from l.fault (into_iter_items l.outcome-iterator) ≡ gravest_from None l.fn.outcomes.items;
  kept : kept_from l.kept (into_iter_items l.outcome-iterator) ≡ kept_from nothing_kept l.fn.outcomes.items;
  left : into_iter_len l.outcome-iterator ≡ length (into_iter_items l.outcome-iterator);
}
