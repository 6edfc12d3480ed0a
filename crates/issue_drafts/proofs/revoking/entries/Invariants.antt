use Rattle.std.proofs.Common.{take}
use Rattle.std.specs.List.{AllZip, zip}
use Rattle.issue_drafts.specs.IssueInput.{input_of}
use Rattle.issue_drafts.proofs.Lists.{OfRow}
use Rattle.issue_drafts.proofs.revoking.entries.Given as goal

abbrev pub invariant-loop-position : goal.invariant-loop-position
invariant-loop-position l = AllZip (OfRow (input_of l.at) l.touched) (take l.position (zip l.rows l.points)) l.lists.items
