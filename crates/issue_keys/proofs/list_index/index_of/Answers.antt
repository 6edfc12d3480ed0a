use Rattle.issue_keys.proofs.Positions.{positioned-more}
use Rattle.issue_keys.proofs.list_index.index_of.Goals as goal

pub loop-position-preserved : goal.loop-position-preserved
loop-position-preserved c =
    positioned-more c.args.keys.now c.loop-position.position _ c.loop-position.entries.items c.push_position.new.entries.items
    c.loop-position-test.true c.loop-position.invariant c.in_ok-push_position.ensures
