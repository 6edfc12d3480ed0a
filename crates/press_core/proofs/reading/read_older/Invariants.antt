use Rattle.std.proofs.Common.{◌≤◌}
use Rattle.press_core.specs.inner.Loads.{IsOpened, IsRead, AreReadTo}
use Rattle.press_core.proofs.reading.read_older.Given as goal

abbrev pub invariant-loop-count : goal.invariant-loop-count
invariant-loop-count g l = record {
  read : AreReadTo l.fn.journal.records l.count l.left;
  journal : IsRead g.D.Disk l.fn.journal l.journal;
  opened : IsOpened g.D.Disk l.journal;
  within : l.count ≤ l.older;
}
