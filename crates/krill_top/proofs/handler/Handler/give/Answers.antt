use Rattle.std.proofs.Common.{◌∙◌}
use Rattle.krill_top.specs.inner.Handlers.{timed}
use Rattle.krill_top.proofs.Workloads.{unasked_give}
use Rattle.krill_top.proofs.handler.Handler.give.Goals as goal

pub returns-in-Err-clause-gives : goal.returns-in-Err-clause-gives
returns-in-Err-clause-gives g c = unasked_give g.D.Disk g.O.Outlet (Unit {0}) c.args.name.now c.args.command c.reserve.new.self.items (timed g.C.Clock c.args.self.now) (c.reserve.ensures.items ∙ c.requires)
