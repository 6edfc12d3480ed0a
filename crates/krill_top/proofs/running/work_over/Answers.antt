use Rattle.std.proofs.Common.{◌≡◌, ◌∷◌, List, map, sym, refl, ◌∙◌, ap, subst}
use Rattle.krill_top.specs.declared.ends.Ends.{Ends}
use Rattle.session_lines.specs.Keeping.{nothing_kept}
use Rattle.session_lines.specs.declared.running.SessionEnds.{SessionEnds}
use Rattle.krill_top.specs.Statuses.{run_status}
use Rattle.krill_top.specs.Working.{Works}
use Rattle.krill_top.specs.inner.Opened.{AreClosed}
use Rattle.krill_top.specs.inner.Instances.{InstanceValue, TimedInstance, MovesTimed}
use Rattle.krill_top.specs.inner.Handlers.{timed, worked}
use Rattle.krill_top.specs.Run.{WorksOne}
use Rattle.krill_top.proofs.Lists.{only_one}
use Rattle.krill_top.proofs.Served.{works_one}
use Rattle.krill_top.proofs.running.work_over.Goals as goal

pub returns : goal.returns
returns g c bases random ends before started one =
    let D : Type 0 = g.row.D.Denot in
    let Session : Type 0 = SessionEnds g.row.S.Denot g.row.K.Denot g.row.C.Denot in
    let first : Session = c.take_first-source.result in
    let taken = only_one first before c.take_first-source.new.list.items (sym one ∙ c.take_first-source.ensures.items) in
    let after : Session = record { source = first.source; sink = c.work-worked.new.sink; clock = c.into_parts-instance.result.1 } in
    let run = c.run_end.result in
    let closed : InstanceValue D g.row.O.Denot = c.into_parts-instance.result.0 in
    let worked_so : TimedInstance D g.row.O.Denot → TimedInstance D g.row.O.Denot → Type 0 =
    (λ old new. MovesTimed g.D.Disk g.O.Outlet (λ b a. Works g.K.Sink c.args.authorities c.work-worked.result (worked first.sink b) (worked after.sink a)) old new) in
    let same_kept : c.work-worked.new.handler.kept ≡ run.kept = sym (c.run_end.ensures.kept ∙ c.into_parts-instance.ensures.kept) in
    let begins : timed g.C.Clock c.new-handler.result ≡ record { instance = c.args.started.instance; clock = g.C.Clock.readings first.clock; kept = nothing_kept } =
    (λ i. record { instance = c.new-handler.ensures.instance i; clock = g.C.Clock.readings (c.new-handler.ensures.clock i); kept = c.new-handler.ensures.kept i }) in
    let timed_ends : timed g.C.Clock c.work-worked.new.handler ≡ record { instance = closed; clock = g.C.Clock.readings after.clock; kept = run.kept } =
    (λ i. record { instance = sym c.into_parts-instance.ensures.instance i; clock = g.C.Clock.readings (sym c.into_parts-instance.ensures.clock i); kept = same_kept i }) in
    let works : worked_so (record { instance = c.args.started.instance; clock = g.C.Clock.readings first.clock; kept = nothing_kept }) (record { instance = closed; clock = g.C.Clock.readings after.clock; kept = run.kept }) =
    subst (λ (t : TimedInstance D g.row.O.Denot). worked_so t (record { instance = closed; clock = g.C.Clock.readings after.clock; kept = run.kept })) begins
    (subst (λ (t : TimedInstance D g.row.O.Denot). worked_so (timed g.C.Clock c.new-handler.result) t) timed_ends c.work-worked.ensures) in
    subst (λ (b : Session). WorksOne g.D.Disk g.G.Signer.state g.O.Outlet g.K.Sink g.C.Clock c.args.authorities bases random ends b run) taken.0
    (works_one g.D.Disk g.G.Signer.state g.O.Outlet g.S.Source g.K.Sink g.C.Clock c.laws_of_runs.ensures c.args.authorities bases random ends first after c.work-worked.result
    run c.args.started closed started c.requires.none works
    (record {
      handed_back = record {
        desks = subst (λ (e : Ends D g.row.G.Denot g.row.O.Denot). AreClosed g.D.Disk closed.desks e.desks.items) (sym c.run_end.ensures.ends) c.stop.ensures.desks;
        press = ap (λ (e : Ends D g.row.G.Denot g.row.O.Denot). e.press) c.run_end.ensures.ends ∙ c.stop.ensures.press;
        safe = c.stop.ensures.safe;
        signers = ap (λ (e : Ends D g.row.G.Denot g.row.O.Denot). map g.G.Signer.state e.signers.items) c.run_end.ensures.ends ∙ c.stop.ensures.signers;
        outlet = ap (λ (e : Ends D g.row.G.Denot g.row.O.Denot). e.outlet) c.run_end.ensures.ends ∙ c.stop.ensures.outlet;
      };
      sessions = c.run_end.ensures.sessions ∙ c.put_in_front.ensures.items ∙ ap (λ (l : List Session). after ∷ l) taken.1;
      status = c.run_end.ensures.status ∙ ap run_status c.ended_by.ensures;
      fault = c.run_end.ensures.fault ∙ c.ended_by.ensures;
      source = refl;
    }))
