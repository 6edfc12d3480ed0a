use Rattle.std.proofs.Common.{arith}
use Rattle.res_sets.specs.Merging.{last_first}
use Rattle.res_sets.proofs.Lists.{RisesFrom-weaker}
use Rattle.res_sets.proofs.Merges.{Joining-next}
use Rattle.res_sets.proofs.merging.join.Goals as goal

pub take_first-requires-clause-a_rises : goal.take_first-requires-clause-a_rises
take_first-requires-clause-a_rises c = RisesFrom-weaker (last_first c.loop-range.out.items) 0 c.loop-range.a.now (omega arith) c.loop-range.invariant.a_rises

pub take_first-requires-clause-b_rises : goal.take_first-requires-clause-b_rises
take_first-requires-clause-b_rises c = RisesFrom-weaker (last_first c.loop-range.out.items) 0 c.loop-range.b.now (omega arith) c.loop-range.invariant.b_rises

pub loop-range-preserved : goal.loop-range-preserved
loop-range-preserved c =
    Joining-next _ _ _ _ _ _ _ _ c.in-Some.range c.loop-range.invariant c.in-Some.ensures.a_rest c.in-Some.ensures.b_rest c.in-Some.ensures.members
    c.in_ok-append.ensures.rises c.in_ok-append.ensures.last c.in_ok-append.ensures.members
