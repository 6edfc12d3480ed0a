use Rattle.std.proofs.Common.{◌≡◌, take, None}
use Rattle.std.specs.Prelude.{find, nat_le}
use Rattle.editions.specs.Moments.{end_of_counters, counters_of}
use Rattle.editions.proofs.limits.first_at_end.Given as goal

abbrev pub invariant-loop-row : goal.invariant-loop-row
invariant-loop-row l = find (nat_le end_of_counters) (counters_of (take l.row-index l.rows)) ≡ None
