use Rattle.std.proofs.Common.{take}
use Rattle.gate_journal.specs.Format.{payloads}
use Rattle.desk_core.specs.inner.Kept.{IsLoaded}
use Rattle.desk_core.proofs.opening.fold.Given as goal

abbrev pub invariant-loop-index : goal.invariant-loop-index
invariant-loop-index g l = IsLoaded l.number l.config.settings (take l.index (payloads l.journal.sizes l.body))
