use Rattle.manager.proofs.Ready.{ready_first}
use Rattle.manager.proofs.ready_store.make_store_ready.Goals as goal

pub returns-in-Ok-count_all-clause-ready : goal.returns-in-Ok-count_all-clause-ready
returns-in-Ok-count_all-clause-ready g c = λ is.
    ready_first g.O.Outlet c.args.desks.items _ c.args.press _ c.args.outlet c.in-Ok-count_all.ensures.counted c.in-Ok.ensures.shown is
