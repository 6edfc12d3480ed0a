use Rattle.std.proofs.Common.{ap}
use Rattle.std.specs.Option.{is_some}
use Rattle.issue_drafts.proofs.Rising.{position-there, position-none, not-here, past-end}
use Rattle.issue_drafts.proofs.key_finder.KeyFinder.fresh_position.Goals as goal

pub returns-in-Some : goal.returns-in-Some
returns-in-Some c =
    let there = c.in-Some.ensures.lookup in
    position-there c.args.self.now.desks.items c.deref.result.now c.deref-2.result.now
    c.args.self.now.first_fresh c.args.desk c.first_not_below-at.result c.in-Some.found.now
    c.deref.ensures.value c.deref-2.ensures.value there.3.0 there.1 c.if-found-desk.true
    c.first_not_below-at.ensures.below

pub returns-in_default : goal.returns-in_default
returns-in_default c = λ rising.
    let there = c.in-Some.ensures.lookup in
    position-none c.args.self.now.desks.items c.deref.result.now
    c.args.self.now.first_fresh c.args.desk c.first_not_below-at.result c.deref.ensures.value
    c.first_not_below-at.ensures.below c.first_not_below-at.ensures.above rising
    (not-here c.args.self.now.desks.items c.deref-2.result.now c.args.desk c.first_not_below-at.result
    c.in-Some.found.now c.deref-2.ensures.value there.1 c.if-found-desk.false)

pub returns-in_default-2 : goal.returns-in_default-2
returns-in_default-2 c = λ rising.
    position-none c.args.self.now.desks.items c.deref.result.now
    c.args.self.now.first_fresh c.args.desk c.first_not_below-at.result c.deref.ensures.value
    c.first_not_below-at.ensures.below c.first_not_below-at.ensures.above rising
    (past-end c.args.self.now.desks.items c.deref-2.result.now c.args.desk c.first_not_below-at.result
    (is_some c.get.result) c.deref-2.ensures.value c.get.ensures.lookup.0 (ap is_some c.in_default.is))
