use Rattle.std.proofs.Common.{◌≡◌, take}
use Rattle.issue_keys.specs.Indexes.{key_positions}
use Rattle.issue_keys.proofs.list_index.index_of.Given as goal

abbrev pub invariant-loop-position : goal.invariant-loop-position
invariant-loop-position l = l.entries.items ≡ key_positions 0 (take l.position l.keys)
