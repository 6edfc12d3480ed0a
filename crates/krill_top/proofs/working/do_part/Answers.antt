use Rattle.std.proofs.Common.{List, ℕ, subst}
use Rattle.std.specs.Prelude.{Ok, Err}
use Rattle.krill_top.specs.Telling.{Tells}
use Rattle.krill_top.specs.inner.Handlers.{timed}
use Rattle.krill_top.proofs.Workloads.{part_told}
use Rattle.krill_top.proofs.working.do_part.Goals as goal

pub returns-in-Ok : goal.returns-in-Ok
returns-in-Ok g c =
    part_told g.D.Disk g.O.Outlet g.K.Sink c.args.authorities c.args.count c.args.commands.now c.give_and_publish.new.reply.items (Ok c.in-Ok.published) c.tell_line.result c.go_on.result c.args.sink.now c.tell_line.new.sink
    (timed g.C.Clock c.args.handler.now) (timed g.C.Clock c.give_and_publish.new.handler) c.in-Ok.ensures c.tell_line.ensures (c.go_on.ensures c.in-Ok.published)

pub returns : goal.returns
returns g c =
    part_told g.D.Disk g.O.Outlet g.K.Sink c.args.authorities c.args.count c.args.commands.now c.give_and_publish.new.reply.items (Err c.in-Err.fault) c.told.result _ c.args.sink.now c.told.new.sink
    (timed g.C.Clock c.args.handler.now) (timed g.C.Clock c.give_and_publish.new.handler) c.in-Err.ensures
    (subst (λ (l : List ℕ). Tells g.K.Sink l c.told.result c.args.sink.now c.told.new.sink) c.as_slice.ensures.value c.told.ensures) c.graver.ensures
