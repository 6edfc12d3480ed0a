use Rattle.std.proofs.Common.{◌∷◌, List, map, sym, refl, ◌∙◌, ap, subst}
use Rattle.std.specs.Prelude.{Option}
use Rattle.krill_top.specs.declared.faults.RunFault.{RunFault}
use Rattle.krill_top.specs.declared.ends.Ends.{Ends}
use Rattle.session_lines.specs.declared.running.SessionEnds.{SessionEnds}
use Rattle.krill_top.specs.Statuses.{run_status}
use Rattle.krill_top.specs.Summaries.{summary_line}
use Rattle.krill_top.specs.inner.Opened.{AreClosed}
use Rattle.krill_top.specs.Run.{TellsOne}
use Rattle.krill_top.specs.Telling.{Tells}
use Rattle.krill_top.proofs.Lists.{only_one}
use Rattle.krill_top.proofs.Served.{tells_one}
use Rattle.krill_top.proofs.running.tell_one.Goals as goal

pub returns : goal.returns
returns g c bases random ends before started one =
    let D : Type 0 = g.row.D.Denot in
    let Session : Type 0 = SessionEnds g.row.S.Denot g.row.K.Denot g.row.C.Denot in
    let first : Session = c.take_first-source.result in
    let taken = only_one first before c.take_first-source.new.list.items (sym one ∙ c.take_first-source.ensures.items) in
    let after : Session = record { source = first.source; sink = c.tell-fault.new.sink; clock = first.clock } in
    let run = c.run_end.result in
    subst (λ (b : Session). TellsOne g.D.Disk g.G.Signer.state g.O.Outlet g.K.Sink bases random ends b run) taken.0
    (tells_one g.D.Disk g.G.Signer.state g.O.Outlet g.S.Source g.K.Sink g.C.Clock c.laws_of_runs.ensures bases random ends first after run c.args.started started
    (record {
      desks = subst (λ (e : Ends D g.row.G.Denot g.row.O.Denot). AreClosed g.D.Disk c.args.started.instance.desks e.desks.items) (sym c.run_end.ensures.ends) c.stop.ensures.desks;
      press = ap (λ (e : Ends D g.row.G.Denot g.row.O.Denot). e.press) c.run_end.ensures.ends ∙ c.stop.ensures.press;
      safe = c.stop.ensures.safe;
      signers = ap (λ (e : Ends D g.row.G.Denot g.row.O.Denot). map g.G.Signer.state e.signers.items) c.run_end.ensures.ends ∙ c.stop.ensures.signers;
      outlet = ap (λ (e : Ends D g.row.G.Denot g.row.O.Denot). e.outlet) c.run_end.ensures.ends ∙ c.stop.ensures.outlet;
      sessions = c.run_end.ensures.sessions ∙ c.put_in_front.ensures.items ∙ ap (λ (l : List Session). after ∷ l) taken.1;
      kept = c.run_end.ensures.kept ∙ c.new.ensures;
      status = c.run_end.ensures.status ∙ ap run_status (sym c.run_end.ensures.fault);
      source = refl;
      clock = refl;
      tells = subst (λ (f : Option RunFault). Tells g.K.Sink (summary_line c.args.started.summary) f first.sink c.tell-fault.new.sink) (sym c.run_end.ensures.fault) c.tell-fault.ensures;
    }))
