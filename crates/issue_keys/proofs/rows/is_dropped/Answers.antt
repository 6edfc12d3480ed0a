use Rattle.std.proofs.Common.{◌∙◌}
use Rattle.issue_keys.proofs.Finds.{dropped-is}
use Rattle.issue_keys.proofs.rows.is_dropped.Goals as goal

pub returns : goal.returns
returns c =
    c.is_some.ensures
    ∙ dropped-is c.args.dropped.now c.args.index.now c.args.row.now c.of-id.result c.first-position.result
    c.requires c.of-id.ensures c.first-position.ensures
