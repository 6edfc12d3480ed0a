use Rattle.std.proofs.Common.{sym, arith}
use Rattle.std.proofs.lemmas.Grind.{common_steps}
use Rattle.res_sets.proofs.Lookups.{found_at, none_at, none_behind, held_at}
use Rattle.res_sets.proofs.lookup.find.Goals as goal

pub returns-in-Some-clause-found : goal.returns-in-Some-clause-found
returns-in-Some-clause-found c =
    let at = c.in-Some.ensures.lookup in
    sym (held_at c.args.ranges.now c.place_of.result c.in-Some.range.now c.args.n at.3.0 at.1
    (found_at c.args.ranges.now c.args.n c.place_of.result c.in-Some.range.now at.3.0 at.1 c.if-range-n.true c.place_of.ensures.behind))

pub returns-in-Some-clause-range : goal.returns-in-Some-clause-range
returns-in-Some-clause-range c =
    let at = c.in-Some.ensures.lookup in
    found_at c.args.ranges.now c.args.n c.place_of.result c.in-Some.range.now at.3.0 at.1 c.if-range-n.true c.place_of.ensures.behind

pub returns-in-Some-clause-end : goal.returns-in-Some-clause-end
returns-in-Some-clause-end c =
    let at = c.in-Some.ensures.lookup in
    none_behind c.args.ranges.now c.place_of.result c.in-Some.range.now c.requires at.3.0 at.1

pub returns-in_default-clause-found : goal.returns-in_default-clause-found
returns-in_default-clause-found c =
    let at = c.in-Some.ensures.lookup in
    sym (none_at 0 c.args.ranges.now c.args.n c.place_of.result c.requires c.place_of.ensures.before
    (λ d inside. let here = at.3.1 d in grind (arith, common_steps, here, c.if-range-n.false)))

pub returns-in_default-2-clause-found : goal.returns-in_default-2-clause-found
returns-in_default-2-clause-found c =
    sym (none_at 0 c.args.ranges.now c.args.n c.place_of.result c.requires c.place_of.ensures.before
    (λ d inside. grind (arith, common_steps, c.get.ensures.lookup.0, c.in_default.is)))
