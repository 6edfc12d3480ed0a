use Rattle.std.proofs.Common.{arith}
use Rattle.issue_plan.proofs.PlaceLemmas.{noted-at, none-filled, one-filled, all-filled}
use Rattle.issue_plan.proofs.owed_places.fill.Goals as goal

pub loop-index-init : goal.loop-index-init
loop-index-init c = none-filled c.args.standing.now c.args.owed.now c.args.positions.now.items c.requires.noted

pub owed_position-requires-clause-noted : goal.owed_position-requires-clause-noted
owed_position-requires-clause-noted c =
    noted-at c.args.standing.now c.args.owed.now c.loop-index.positions.items c.loop-index.index c.index-owed-index.result
    c.index.result.now c.loop-index.invariant.noted c.loop-index-test.true c.index-owed-index.is c.index.ensures

pub loop-index-preserved : goal.loop-index-preserved
loop-index-preserved c =
    one-filled c.args.standing.now c.args.owed.now c.loop-index.positions.items c.loop-index.index
    c.index-owed-index.result c.in_ok-position.position c.loop-index-test.true c.index-owed-index.is
    c.in_ok-position.ensures c.loop-index.invariant

pub returns : goal.returns
returns c = all-filled c.args.standing.now c.args.owed.now c.loop-index.positions.items c.loop-index.index (omega arith) c.loop-index.invariant
