use Rattle.std.proofs.Common.{refl}
use Rattle.krill_top.specs.inner.Handlers.{timed}
use Rattle.krill_top.proofs.Workloads.{works_parts, works_part}
use Rattle.krill_top.proofs.working.do_parts.Goals as goal

pub returns-in-Ok : goal.returns-in-Ok
returns-in-Ok g c =
    works_parts g.D.Disk g.O.Outlet g.K.Sink c.args.authorities _ _ c.args.commands.now _ c.in-Ok.field-0 c.do_part-in-Ok.result c.args.sink.now c.do_part.new.sink c.do_part-in-Ok.new.sink
    (timed g.C.Clock c.args.handler.now) (timed g.C.Clock c.do_part.new.handler) (timed g.C.Clock c.do_part-in-Ok.new.handler) c.requires refl refl refl c.in-Ok.ensures c.do_part-in-Ok.ensures

pub returns-in-Err : goal.returns-in-Err
returns-in-Err g c =
    works_part g.D.Disk g.O.Outlet g.K.Sink c.args.authorities _ c.args.commands.now c.in-Err.fault c.args.sink.now c.do_part.new.sink (timed g.C.Clock c.args.handler.now) (timed g.C.Clock c.do_part.new.handler) c.requires refl c.in-Err.ensures
