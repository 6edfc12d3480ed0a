use Rattle.std.proofs.Common.{◌≡◌, ◌++◌, filter, map, take}
use Rattle.issue_drafts.specs.Revoking.{revoked_row}
use Rattle.issue_drafts.specs.inner.Positions.{items_at}
use Rattle.issue_drafts.specs.inner.Entries.{lasts}
use Rattle.issue_drafts.proofs.revoking.push_ended.Given as goal

abbrev pub invariant-loop-entry : goal.invariant-loop-entry
invariant-loop-entry l =
    l.all.items ≡ l.fn.all.items ++ filter (lasts l.cutoff) (map (revoked_row l.moment)
    (items_at l.issued (take l.entry-index l.ended)))
