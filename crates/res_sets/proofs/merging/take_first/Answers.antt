use Rattle.res_sets.proofs.Lists.{RisesFrom-rest}
use Rattle.res_sets.proofs.merging.take_first.Goals as goal

pub returns-then-left-right-clause-a_rest : goal.returns-then-left-right-clause-a_rest
returns-then-left-right-clause-a_rest c = RisesFrom-rest 0 c.args.a.now _ _ c.in-Some-Some.ensures.cases.0 c.requires.a_rises

pub returns-else-left-right-clause-b_rest : goal.returns-else-left-right-clause-b_rest
returns-else-left-right-clause-b_rest c = RisesFrom-rest 0 c.args.b.now _ _ c.in-Some-Some.ensures'.cases.0 c.requires.b_rises

pub returns-in-Some-None-clause-a_rest : goal.returns-in-Some-None-clause-a_rest
returns-in-Some-None-clause-a_rest c = RisesFrom-rest 0 c.args.a.now _ _ c.in-Some-None.ensures.cases.0 c.requires.a_rises

pub returns-in-None-Some-clause-b_rest : goal.returns-in-None-Some-clause-b_rest
returns-in-None-Some-clause-b_rest c = RisesFrom-rest 0 c.args.b.now _ _ c.in-None-Some.ensures'.cases.0 c.requires.b_rises
