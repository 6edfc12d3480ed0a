use Rattle.std.proofs.Common.{◌≡◌, ◌++◌, filter, take}
use Rattle.issue_drafts.specs.inner.Entries.{lasts}
use Rattle.issue_drafts.proofs.revoking.push_standing.Given as goal

abbrev pub invariant-loop-row : goal.invariant-loop-row
invariant-loop-row l = l.all.items ≡ l.fn.all.items ++ filter (lasts l.cutoff) (take l.row-index l.revoked)
