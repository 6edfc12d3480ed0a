use Rattle.std.proofs.Common.{◌≡◌, take}
use Rattle.editions.specs.Ended.{ended_keys}
use Rattle.editions.proofs.ended.ended_keys.Given as goal

abbrev pub invariant-loop-row : goal.invariant-loop-row
invariant-loop-row l = l.ended.items ≡ ended_keys (take l.row-index l.before) l.after
