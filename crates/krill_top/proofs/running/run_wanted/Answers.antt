use Rattle.std.proofs.Common.{List, ℕ, subst, inr}
use Rattle.krill_top.specs.inner.Started.{IsStarted}
use Rattle.krill_top.proofs.ServedMany.{started_resumed}
use Rattle.krill_top.proofs.running.run_wanted.Goals as goal

pub returns-in-Ok : goal.returns-in-Ok
returns-in-Ok g c =
    inr (c.do_asked.ensures c.args.asked.site c.args.random c.args.ends
    (subst (λ (id : List ℕ). IsStarted g.D.Disk g.G.Signer.state g.O.Outlet c.args.asked.site id c.args.ends c.in-Ok.started) c.session_of.ensures c.in-Ok.ensures.started))

pub do_asked-requires-clause-resumed : goal.do_asked-requires-clause-resumed
do_asked-requires-clause-resumed g c = λ lifetimes lives. started_resumed g.D.Disk g.G.Signer.state g.O.Outlet _ _ c.args.ends c.in-Ok.started c.in-Ok.ensures.started
