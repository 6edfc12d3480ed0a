use Rattle.std.proofs.Common.{◌≡◌, map, take}
use Rattle.issue_values.specs.Publishers.{publishing}
use Rattle.issue_drafts.specs.WorkKeys.{keys_at}
use Rattle.issue_drafts.specs.IssueInput.{input_of}
use Rattle.issue_drafts.specs.Publishers.{publishing_of}
use Rattle.issue_drafts.proofs.key_publishers.publishers.Given as goal

abbrev pub invariant-loop-position : goal.invariant-loop-position
invariant-loop-position l =
    map publishing l.publishers.items
    ≡ map (publishing_of (input_of l.at) (keys_at l.rows l.finder.first_fresh)) (take l.position l.rows)
