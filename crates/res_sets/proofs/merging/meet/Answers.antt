use Rattle.std.proofs.Common.{arith}
use Rattle.res_sets.proofs.Merges.{Meeting-room, Meeting-left, Meeting-right}
use Rattle.res_sets.proofs.merging.meet.Goals as goal

pub push_between-requires-clause-room : goal.push_between-requires-clause-room
push_between-requires-clause-room c =
    Meeting-room _ _ _ _ _ _ _ _ _ _ _ c.in-Some-Some.ensures.cases.0 c.in-Some-Some.ensures'.cases.0 c.max.ensures c.min.ensures c.loop-left.invariant

pub loop-left-preserved-then-left-right : goal.loop-left-preserved-then-left-right
loop-left-preserved-then-left-right c =
    Meeting-left _ _ _ _ _ _ _ _ _ _ _ _ c.in-Some-Some.ensures.cases.0 c.in-Some-Some.ensures'.cases.0 c.max.ensures c.min.ensures c.if-left-right.true c.loop-left.invariant
    (record { rises = c.in_ok-push_between.ensures.rises; room = c.in_ok-push_between.ensures.room; members = c.in_ok-push_between.ensures.members })

pub loop-left-preserved : goal.loop-left-preserved
loop-left-preserved c =
    Meeting-right _ _ _ _ _ _ _ _ _ _ _ _ c.in-Some-Some.ensures.cases.0 c.in-Some-Some.ensures'.cases.0 c.max.ensures c.min.ensures (omega (arith, c.if-left-right.false)) c.loop-left.invariant
    (record { rises = c.in_ok-push_between.ensures.rises; room = c.in_ok-push_between.ensures.room; members = c.in_ok-push_between.ensures.members })
