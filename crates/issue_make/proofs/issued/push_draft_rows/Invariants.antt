use Rattle.std.proofs.Common.{◌≡◌, ◌++◌, map, take}
use Rattle.issue_drafts.specs.Views.{draft_of}
use Rattle.issue_make.specs.inner.Putting.{draft_rows, hashes_of}
use Rattle.issue_make.proofs.issued.push_draft_rows.Given as goal

abbrev pub invariant-loop-position : goal.invariant-loop-position
invariant-loop-position l =
    l.rows.items ≡ l.initial.rows.items
    ++ take l.position (draft_rows l.moment (map draft_of l.drafts) l.given (hashes_of l.objects))
