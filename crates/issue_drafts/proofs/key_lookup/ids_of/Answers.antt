use Rattle.std.proofs.Common.{ap, ◌∙◌}
use Rattle.issue_drafts.specs.WorkKeys.{key_of}
use Rattle.issue_drafts.proofs.NamedKeys.{id-is, map-more}
use Rattle.issue_drafts.proofs.key_lookup.ids_of.Goals as goal

pub loop-row-preserved : goal.loop-row-preserved
loop-row-preserved c =
    map-more key_of c.args.rows.now c.loop-row.row-index c.row-item.result _ _ _
    c.loop-row-test.true c.loop-row.invariant c.in_ok-push.ensures.items
    (id-is c.of.result c.row-item.result c.of.ensures ∙ ap key_of c.row-item.is)
