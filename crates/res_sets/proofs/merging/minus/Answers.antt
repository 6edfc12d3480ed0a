use Rattle.std.proofs.Common.{◌+◌, arith}
use Rattle.res_sets.specs.Numbers.{RisesFrom}
use Rattle.res_sets.proofs.Lists.{RisesFrom-weaker, RisesFrom-at_head, RisesFrom-none}
use Rattle.res_sets.proofs.Merges.{Taking-past, Taking-room, Taking-whole, Taking-cut, Taking-done}
use Rattle.res_sets.proofs.merging.minus.Goals as goal
use Rattle.res_sets.proofs.merging.minus.Goals.{in_default-split_first-via-in-Some-2+else-right-left, in_default-split_first-via-in_default-split_first}

pub loop-left-preserved-then-right-first : goal.loop-left-preserved-then-right-first
loop-left-preserved-then-right-first c =
    Taking-past _ _ _ _ _ _ _ _ _ _ _ c.in-Some.ensures.cases.0 c.in-Some-split_first.ensures.cases.0 c.max-first.ensures c.if-right-first.true c.loop-left.invariant

pub push_before-requires-clause-room : goal.push_before-requires-clause-room
push_before-requires-clause-room c some =
    Taking-room _ _ _ _ _ _ _ _ _ c.in-Some.ensures.cases.0 c.max-first.ensures (omega (arith, c.if-right-left.true))
    (RisesFrom-at_head 0 _ _ _ _ c.in-Some-split_first.ensures.cases.0 c.loop-left.invariant.b_rises (omega (arith, some)))
    c.loop-left.invariant

pub loop-left-preserved-then-right-left-2 : goal.loop-left-preserved-then-right-left-2
loop-left-preserved-then-right-left-2 c =
    Taking-cut _ _ _ _ _ _ _ _ _ _ _ _ c.in-Some.ensures.cases.0 c.in-Some-split_first.ensures.cases.0 c.max-first.ensures c.if-right-first.false c.if-right-left.true c.if-right-left-2.true c.loop-left.invariant
    (record { rises = c.in_ok-push_before-in-Some-2.ensures.rises; room = c.in_ok-push_before-in-Some-2.ensures.room; members = c.in_ok-push_before-in-Some-2.ensures.members })

pub loop-left-preserved-else-right-left-2 : goal.loop-left-preserved-else-right-left-2
loop-left-preserved-else-right-left-2 c =
    Taking-done _ _ _ _ _ _ _ _ _ _ _ _ c.in-Some.ensures.cases.0 c.in-Some-split_first.ensures.cases.0 c.max-first.ensures c.if-right-left.true c.if-right-left-2.false c.loop-left.invariant
    (record { rises = c.in_ok-push_before-in-Some-2.ensures.rises; room = c.in_ok-push_before-in-Some-2.ensures.room; members = c.in_ok-push_before-in-Some-2.ensures.members })

pub push_between-requires-clause-room : goal.push_between-requires-clause-room
push_between-requires-clause-room c some =
    let behind : RisesFrom (c.in-Some.left.now.last + 1) c.loop-left.b.now =
    elim c.in_default-split_first.branch [
      | in_default-split_first-via-in-Some-2+else-right-left w ↦ RisesFrom-at_head 0 _ _ _ _ w.in-Some-split_first.ensures.cases.0 c.loop-left.invariant.b_rises (omega (arith, w.if-right-left.false))
      | in_default-split_first-via-in_default-split_first w ↦ RisesFrom-none _ _ w.in_default-split_first.ensures.cases
    ] in
    Taking-room _ _ _ _ _ _ _ _ _ c.in-Some.ensures.cases.0 c.max-first.ensures some
    (RisesFrom-weaker (c.in-Some.left.now.last + 1) _ _ (omega (arith, some)) behind) c.loop-left.invariant

pub loop-left-preserved : goal.loop-left-preserved
loop-left-preserved c =
    let behind : RisesFrom (c.in-Some.left.now.last + 1) c.loop-left.b.now =
    elim c.in_default-split_first.branch [
      | in_default-split_first-via-in-Some-2+else-right-left w ↦ RisesFrom-at_head 0 _ _ _ _ w.in-Some-split_first.ensures.cases.0 c.loop-left.invariant.b_rises (omega (arith, w.if-right-left.false))
      | in_default-split_first-via-in_default-split_first w ↦ RisesFrom-none _ _ w.in_default-split_first.ensures.cases
    ] in
    let pushed = c.in_ok-push_between-in_default-split_first.ensures in
    Taking-whole _ _ _ _ _ _ _ _ _ _ c.in-Some.ensures.cases.0 c.max-first.ensures behind c.loop-left.invariant
    (record { rises = pushed.rises; room = pushed.room; members = pushed.members })
