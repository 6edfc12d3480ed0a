use Rattle.std.proofs.Common.{◌≡◌, ◌++◌, map, drop}
use Rattle.issue_keys.specs.Indexes.{key_positions}
use Rattle.issue_drafts.specs.Publishers.{certified_key}
use Rattle.issue_drafts.proofs.key_publishers.certified_positions.Given as goal

abbrev pub invariant-loop-position : goal.invariant-loop-position
invariant-loop-position l =
    key_positions 0 (map (λ row. certified_key row.what) l.issued) ≡ l.certified.items
    ++ key_positions l.position (map (λ row. certified_key row.what) (drop l.position l.issued))
