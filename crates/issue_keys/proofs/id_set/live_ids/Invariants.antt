use Rattle.std.proofs.Common.{◌≡◌, ℕ, List, map, take}
use Rattle.issue_keys.specs.Keys.{id_of}
use Rattle.issue_keys.specs.Making.{clashes}
use Rattle.issue_keys.specs.inner.IdSet.{has}
use Rattle.issue_keys.proofs.id_set.live_ids.Given as goal

abbrev pub invariant-loop-row : goal.invariant-loop-row
invariant-loop-row l = (id : List ℕ) → has l.id_set id ≡ clashes (map id_of (take l.row-index l.rows)) id
