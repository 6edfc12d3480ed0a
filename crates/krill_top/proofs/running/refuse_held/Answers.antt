use Rattle.std.proofs.Common.{map, sym, ◌∙◌, ap, subst}
use Rattle.krill_top.specs.declared.ends.Ends.{Ends}
use Rattle.krill_top.specs.inner.Opened.{AreClosed}
use Rattle.krill_top.proofs.Served.{finds_held}
use Rattle.krill_top.proofs.running.refuse_held.Goals as goal

pub returns : goal.returns
returns g c bases random ends before started one =
    let D : Type 0 = g.row.D.Denot in
    finds_held g.D.Disk g.G.Signer.state g.O.Outlet g.S.Source g.K.Sink g.C.Clock c.laws_of_runs.ensures bases random ends before c.args.found.0 c.args.found.1 c.run_end.result c.args.started started c.requires.held
    (record {
      handed_back = record {
        desks = subst (λ (e : Ends D g.row.G.Denot g.row.O.Denot). AreClosed g.D.Disk c.args.started.instance.desks e.desks.items) (sym c.run_end.ensures.ends) c.stop.ensures.desks;
        press = ap (λ (e : Ends D g.row.G.Denot g.row.O.Denot). e.press) c.run_end.ensures.ends ∙ c.stop.ensures.press;
        safe = c.stop.ensures.safe;
        signers = ap (λ (e : Ends D g.row.G.Denot g.row.O.Denot). map g.G.Signer.state e.signers.items) c.run_end.ensures.ends ∙ c.stop.ensures.signers;
        outlet = ap (λ (e : Ends D g.row.G.Denot g.row.O.Denot). e.outlet) c.run_end.ensures.ends ∙ c.stop.ensures.outlet;
      };
      sessions = c.run_end.ensures.sessions ∙ one;
      kept = c.run_end.ensures.kept ∙ c.new.ensures;
      status = c.run_end.ensures.status;
      fault = c.run_end.ensures.fault;
    })
