use Rattle.std.proofs.Common.{◌≡◌, ◌∷◌, List, map, sym, ◌∙◌, ap, subst}
use Rattle.std.specs.Prelude.{Option}
use Rattle.krill_top.specs.declared.faults.RunFault.{RunFault}
use Rattle.krill_top.specs.declared.ends.Ends.{Ends}
use Rattle.session_lines.specs.Keeping.{nothing_kept}
use Rattle.session_lines.specs.declared.running.SessionEnds.{SessionEnds}
use Rattle.krill_top.specs.Statuses.{run_status, graver, end_fault}
use Rattle.krill_top.specs.Sessions.{Served}
use Rattle.krill_top.specs.inner.Opened.{AreClosed}
use Rattle.krill_top.specs.inner.Instances.{InstanceValue, TimedInstance}
use Rattle.krill_top.specs.inner.Handlers.{timed}
use Rattle.krill_top.specs.Run.{ServesOne, streams_of}
use Rattle.krill_top.proofs.Lists.{only_one}
use Rattle.krill_top.proofs.Served.{serves}
use Rattle.krill_top.proofs.running.serve_one.Goals as goal

pub returns : goal.returns
returns g c bases random ends before started one =
    let D : Type 0 = g.row.D.Denot in
    let Session : Type 0 = SessionEnds g.row.S.Denot g.row.K.Denot g.row.C.Denot in
    let first : Session = c.take_first-source.result in
    let taken = only_one first before c.take_first-source.new.list.items (sym one ∙ c.take_first-source.ensures.items) in
    let after : Session = record { source = c.serve-ended.new.source; sink = c.serve-ended.new.sink; clock = c.into_parts-instance.result.1 } in
    let run = c.run_end.result in
    let served : InstanceValue D g.row.O.Denot = c.into_parts-instance.result.0 in
    let closed : InstanceValue D g.row.O.Denot = c.repeat_export-closing.new.self in
    let same_kept : c.serve-ended.new.handler.kept ≡ run.kept = sym (c.run_end.ensures.kept ∙ c.into_parts-instance.ensures.kept) in
    let begins : timed g.C.Clock c.new-handler.result ≡ record { instance = c.args.started.instance; clock = g.C.Clock.readings first.clock; kept = nothing_kept } =
    (λ i. record { instance = c.new-handler.ensures.instance i; clock = g.C.Clock.readings (c.new-handler.ensures.clock i); kept = c.new-handler.ensures.kept i }) in
    let timed_ends : timed g.C.Clock c.serve-ended.new.handler ≡ record { instance = served; clock = g.C.Clock.readings after.clock; kept = run.kept } =
    (λ i. record { instance = sym c.into_parts-instance.ensures.instance i; clock = g.C.Clock.readings (sym c.into_parts-instance.ensures.clock i); kept = same_kept i }) in
    let session : Served g.D.Disk g.O.Outlet g.S.Source g.K.Sink (streams_of first) (streams_of after) (record { instance = c.args.started.instance; clock = g.C.Clock.readings first.clock; kept = nothing_kept }) (record { instance = served; clock = g.C.Clock.readings after.clock; kept = run.kept }) c.serve-ended.result =
    subst (λ (t : TimedInstance D g.row.O.Denot). Served g.D.Disk g.O.Outlet g.S.Source g.K.Sink (streams_of first) (streams_of after) t (record { instance = served; clock = g.C.Clock.readings after.clock; kept = run.kept }) c.serve-ended.result) begins
    (subst (λ (t : TimedInstance D g.row.O.Denot). Served g.D.Disk g.O.Outlet g.S.Source g.K.Sink (streams_of first) (streams_of after) (timed g.C.Clock c.new-handler.result) t c.serve-ended.result) timed_ends c.serve-ended.ensures.session) in
    let fault : c.graver-fault.result ≡ end_fault c.serve-ended.result c.repeat_export-closing.result =
    c.graver-fault.ensures ∙ ap (λ (s : Option RunFault). graver s c.export_fault.result) c.fault_of.ensures ∙ ap (graver _) c.export_fault.ensures in
    subst (λ (b : Session). ServesOne g.D.Disk g.G.Signer.state g.O.Outlet g.S.Source g.K.Sink g.C.Clock bases random ends b run) taken.0
    (serves g.D.Disk g.G.Signer.state g.O.Outlet g.S.Source g.K.Sink g.C.Clock c.laws_of_runs.ensures bases random ends first after c.serve-ended.result c.repeat_export-closing.result
    run c.args.started served closed started session c.repeat_export-closing.ensures.moves
    (record {
      desks = subst (λ (e : Ends D g.row.G.Denot g.row.O.Denot). AreClosed g.D.Disk closed.desks e.desks.items) (sym c.run_end.ensures.ends) c.stop.ensures.desks;
      press = ap (λ (e : Ends D g.row.G.Denot g.row.O.Denot). e.press) c.run_end.ensures.ends ∙ c.stop.ensures.press;
      safe = c.stop.ensures.safe;
      signers = ap (λ (e : Ends D g.row.G.Denot g.row.O.Denot). map g.G.Signer.state e.signers.items) c.run_end.ensures.ends ∙ c.stop.ensures.signers;
      outlet = ap (λ (e : Ends D g.row.G.Denot g.row.O.Denot). e.outlet) c.run_end.ensures.ends ∙ c.stop.ensures.outlet;
      sessions = c.run_end.ensures.sessions ∙ c.put_in_front.ensures.items ∙ ap (λ (l : List Session). after ∷ l) taken.1;
      status = c.run_end.ensures.status ∙ ap run_status fault;
      fault = c.run_end.ensures.fault ∙ fault;
      source_fault = c.serve-ended.ensures.source_fault;
      sink_fault = c.serve-ended.ensures.sink_fault;
      source_later = c.serve-ended.ensures.source_later;
      sink_later = c.serve-ended.ensures.sink_later;
    }))
