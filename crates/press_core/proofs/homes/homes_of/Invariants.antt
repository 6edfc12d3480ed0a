use Rattle.std.proofs.Common.{◌≡◌, take, map}
use Rattle.press_core.specs.Tables.{homes_of}
use Rattle.press_core.specs.inner.Rows.{home_value}
use Rattle.press_core.proofs.homes.homes_of.Given as goal

abbrev pub invariant-loop-row : goal.invariant-loop-row
invariant-loop-row l = map home_value l.homes.items ≡ homes_of l.site l.names (take l.row-index l.rows)
