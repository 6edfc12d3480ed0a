use Rattle.std.proofs.Common.{◌≡◌, ◌++◌, map, take}
use Rattle.issue_drafts.specs.Views.{manifest_of}
use Rattle.issue_make.specs.inner.Putting.{draft_rows, next_serials, hashes_of}
use Rattle.issue_make.proofs.issued.push_manifest_rows.Given as goal

abbrev pub invariant-loop-position : goal.invariant-loop-position
invariant-loop-position l =
    l.rows.items ≡ l.initial.rows.items
    ++ take l.position (draft_rows l.moment (map manifest_of l.drafts) (next_serials l.next l.drafts) (hashes_of l.objects))
