use Rattle.std.proofs.Common.{◌≡◌, map, take}
use Rattle.issue_drafts.specs.WorkKeys.{key_of}
use Rattle.issue_drafts.proofs.key_lookup.ids_of.Given as goal

abbrev pub invariant-loop-row : goal.invariant-loop-row
invariant-loop-row l = l.ids.items ≡ map key_of (take l.row-index l.rows)
