use Rattle.krill_top.specs.inner.Handlers.{timed}
use Rattle.krill_top.proofs.Workloads.{wanted_given, unasked_wanted}
use Rattle.krill_top.proofs.working.give.Goals as goal

pub returns-in-Ok-clause-given : goal.returns-in-Ok-clause-given
returns-in-Ok-clause-given g c =
    wanted_given g.D.Disk g.O.Outlet c.args.wanted c.in-Ok.directed.name c.in-Ok.directed.command c.give.new.out.items c.give.result (timed g.C.Clock c.args.handler.now) (timed g.C.Clock c.give.new.self) c.in-Ok.ensures c.give.ensures.gives

pub returns-in-Err-clause-given : goal.returns-in-Err-clause-given
returns-in-Err-clause-given g c = unasked_wanted g.D.Disk g.O.Outlet (Unit {0}) c.args.wanted c.args.reply.now.items (timed g.C.Clock c.args.handler.now) c.requires
