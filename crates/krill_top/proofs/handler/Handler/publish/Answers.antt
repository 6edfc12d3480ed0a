use Rattle.std.proofs.Common.{◌∙◌}
use Rattle.krill_top.specs.inner.Handlers.{timed}
use Rattle.krill_top.proofs.Workloads.{unasked_publish}
use Rattle.krill_top.proofs.handler.Handler.publish.Goals as goal

pub returns-in-Err : goal.returns-in-Err
returns-in-Err g c = unasked_publish g.D.Disk g.O.Outlet c.reserve.new.self.items (timed g.C.Clock c.args.self.now) (c.reserve.ensures.items ∙ c.requires)
