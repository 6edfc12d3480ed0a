use Rattle.krill_top.proofs.PressOpening.{within_more, within_all, past_of}
use Rattle.krill_top.proofs.press_opening.cut_past.Goals as goal

pub loop-desk-preserved : goal.loop-desk-preserved
loop-desk-preserved g c = within_more c.args.desks.now c.args.cut.now c.loop-desk.desk c.held-held.result c.loop-desk.invariant c.held-held.ensures c.if-held-cut.false

pub returns-then-held-cut-clause-past : goal.returns-then-held-cut-clause-past
returns-then-held-cut-clause-past g c =
    past_of c.args.desks.now c.args.cut.now c.loop-desk.desk c.held-held.result c.requires.all c.requires.cut c.loop-desk-test.true c.loop-desk.invariant c.held-held.ensures c.if-held-cut.true

pub returns-clause-none : goal.returns-clause-none
returns-clause-none g c none = within_all c.args.desks.now c.args.cut.now c.loop-desk.desk c.loop-desk-test.false c.loop-desk.invariant
