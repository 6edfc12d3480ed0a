use Rattle.std.proofs.Common.{◌≡◌, take}
use Rattle.std.specs.Prelude.{map}
use Rattle.issue_keys.specs.Keys.{id_of}
use Rattle.editions.proofs.ended.ids_of.Given as goal

abbrev pub invariant-loop-row : goal.invariant-loop-row
invariant-loop-row l = map (λ id. id.bytes) l.ids.items ≡ map id_of (take l.row-index l.rows)
