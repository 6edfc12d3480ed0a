-- What is seen of a tally.
use Rattle.std.specs.Prelude.{ℕ}
use Rattle.host_calls.specs.declared.tally.Tally.{Tally}

abbrev pub fault_count : Tally → ℕ
fault_count tally = tally.faults

abbrev pub patience_of : Tally → ℕ
patience_of tally = tally.patience
