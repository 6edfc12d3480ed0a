use Rattle.std.proofs.Common.{arith}
use Rattle.std.proofs.lemmas.Grind.{common_steps}
use Rattle.res_sets.proofs.Lists.{RisesFrom-hull, any_spans-hull, RisesFrom-apart, last_first-push}
use Rattle.res_sets.proofs.merging.append.Goals as goal
use Rattle.res_sets.proofs.merging.append.Goals.{in-Some+in-None+in_ok-push-in-None, in_default}

pub hull-requires : goal.hull-requires
hull-requires c = let e = last_first-push c.pop.new.self.items c.in-Some.last in grind (arith, common_steps)

pub returns-in-Some-hull-clause-rises : goal.returns-in-Some-hull-clause-rises
returns-in-Some-hull-clause-rises c =
    let rises = RisesFrom-hull 0 c.pop.new.self.items c.in-Some.last c.in-Some-hull.both in grind (arith, common_steps, rises)

pub returns-in-Some-hull-clause-last : goal.returns-in-Some-hull-clause-last
returns-in-Some-hull-clause-last c =
    let e = last_first-push c.pop.new.self.items c.in-Some.last in
    let f = last_first-push c.pop.new.self.items c.in-Some-hull.both in
    grind (arith, common_steps)

pub returns-in-Some-hull-clause-members : goal.returns-in-Some-hull-clause-members
returns-in-Some-hull-clause-members c n =
    let e = last_first-push c.pop.new.self.items c.in-Some.last in
    let members = any_spans-hull c.pop.new.self.items c.in-Some.last c.args.range c.in-Some-hull.both n in
    grind (arith, common_steps, members)

pub returns-clause-rises : goal.returns-clause-rises
returns-clause-rises c =
    elim c.match-pop.branch [ in-Some+in-None+in_ok-push-in-None w ↦ grind (arith, common_steps, RisesFrom-apart) | in_default w ↦ grind (arith, common_steps) ]

pub returns-clause-last : goal.returns-clause-last
returns-clause-last c =
    let e = last_first-push c.match-pop.out.items c.args.range in grind (arith, common_steps)
