use Rattle.std.specs.Prelude.{◌-◌}
use Rattle.pub_set.specs.Objects.{content_at}
use Rattle.press_records.proofs.Carrying.{AreSoFar}
use Rattle.press_records.proofs.taking.take_changes.Given as goal

abbrev pub invariant-loop : goal.invariant-loop
invariant-loop l = AreSoFar (content_at l.fn.set) l.fn.count l.fn.bytes l.taken.items (l.fn.count - l.counter) l.left l.batch.changes.items (content_at l.set)
