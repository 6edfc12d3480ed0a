use Rattle.std.proofs.Common.{sym, subst}
use Rattle.krill_top.specs.declared.words.Doing.{Doing}
use Rattle.krill_top.specs.Runs.{DoesOne}
use Rattle.krill_top.proofs.running.do_one.Goals as goal

pub returns-in-Run : goal.returns-in-Run
returns-in-Run g c bases random ends before started one =
    subst (λ (d : Doing). DoesOne g.D.Disk g.G.Signer.state g.O.Outlet g.S.Source g.K.Sink g.C.Clock d bases random ends before c.serve_one.result) (sym c.in-Run.is)
    (c.serve_one.ensures bases random ends before started one)

pub returns-in-Audit : goal.returns-in-Audit
returns-in-Audit g c bases random ends before started one =
    subst (λ (d : Doing). DoesOne g.D.Disk g.G.Signer.state g.O.Outlet g.S.Source g.K.Sink g.C.Clock d bases random ends before c.tell_one.result) (sym c.in-Audit.is)
    (c.tell_one.ensures bases random ends before started one)

pub returns-in-Workload : goal.returns-in-Workload
returns-in-Workload g c bases random ends before started one =
    subst (λ (d : Doing). DoesOne g.D.Disk g.G.Signer.state g.O.Outlet g.S.Source g.K.Sink g.C.Clock d bases random ends before c.work_one.result) (sym c.in-Workload.is)
    (c.work_one.ensures bases random ends before started one)
