use Rattle.krill_top.specs.inner.Handlers.{timed}
use Rattle.krill_top.proofs.Workloads.{made_then, made_not}
use Rattle.krill_top.proofs.working.give_and_publish.Goals as goal

pub returns-in-Ok : goal.returns-in-Ok
returns-in-Ok g c =
    made_then g.D.Disk g.O.Outlet c.args.commands.now c.give_all.new.reply.items c.publish.new.out.items c.in-Ok.field-0 c.publish.result (timed g.C.Clock c.args.handler.now) (timed g.C.Clock c.give_all.new.handler) (timed g.C.Clock c.publish.new.self)
    c.in-Ok.ensures.given c.publish.ensures

pub returns-in-Err : goal.returns-in-Err
returns-in-Err g c =
    made_not g.D.Disk g.O.Outlet (Unit {0}) c.args.commands.now c.give_all.new.reply.items c.in-Err.fault (timed g.C.Clock c.args.handler.now) (timed g.C.Clock c.give_all.new.handler) c.in-Err.ensures.given
