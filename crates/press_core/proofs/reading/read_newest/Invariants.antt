use Rattle.std.proofs.Common.{◌≤◌}
use Rattle.press_core.specs.inner.Loads.{IsOpened, IsRead, AreTakenIn, repository_in}
use Rattle.press_core.proofs.reading.read_newest.Given as goal

abbrev pub invariant-loop-count : goal.invariant-loop-count
invariant-loop-count g l = record {
  taken : AreTakenIn (repository_in l.fn.resuming) l.fn.journal.records l.older l.count l.left l.resuming;
  journal : IsRead g.D.Disk l.fn.journal l.journal;
  opened : IsOpened g.D.Disk l.journal;
  within : l.count ≤ l.last;
}
