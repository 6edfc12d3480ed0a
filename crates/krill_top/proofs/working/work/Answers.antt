use Rattle.krill_top.specs.inner.Handlers.{timed}
use Rattle.krill_top.proofs.Writing.{none_given}
use Rattle.krill_top.proofs.Workloads.{works_none}
use Rattle.krill_top.proofs.working.work.Goals as goal

pub returns-in-Err : goal.returns-in-Err
returns-in-Err g c = works_none g.D.Disk g.O.Outlet g.K.Sink c.args.authorities c.args.sink.now (timed g.C.Clock c.args.handler.now) (none_given (g.K.Sink.taken c.args.sink.now))
