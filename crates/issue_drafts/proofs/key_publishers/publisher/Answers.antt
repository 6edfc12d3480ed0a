use Rattle.std.proofs.Common.{◌∙◌}
use Rattle.issue_drafts.specs.WorkKeys.{keys_at}
use Rattle.issue_drafts.specs.IssueInput.{input_of}
use Rattle.issue_drafts.proofs.Standing.{published}
use Rattle.issue_drafts.proofs.key_publishers.publisher.Goals as goal

pub returns : goal.returns
returns c =
    published (input_of c.args.at.now) (keys_at c.args.rows.now c.args.finder.now.first_fresh) c.args.key.now.row.now
    c.args.key.now.id.bytes _ _ c.args.key.now.identified c.name_of-name.ensures (c.new.ensures ∙ c.in_ok-uri.ensures)
