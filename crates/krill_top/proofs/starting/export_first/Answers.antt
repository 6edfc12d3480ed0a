use Rattle.std.proofs.Common.{sym, refl, subst}
use Rattle.krill_top.specs.declared.faults.OpenFault.{OpenFault}
use Rattle.krill_top.specs.Run.{IsClosedAgain}
use Rattle.krill_top.specs.inner.Instances.{InstanceValue}
use Rattle.krill_top.specs.inner.Opened.{AreClosed}
use Rattle.krill_top.proofs.StartedInstance.{started_with, stopped_with, signers_kept, closed_again}
use Rattle.krill_top.proofs.starting.export_first.Goals as goal

pub returns-in-Ok-clause-started : goal.returns-in-Ok-clause-started
returns-in-Ok-clause-started g c site session ends ready =
    let started = c.args.started in
    started_with g.D.Disk g.G.Signer.state g.O.Outlet site session ends started.instance started.summary c.requires.sheet ready c.repeat_export.new.self c.repeat_export.ensures.desks c.repeat_export.ensures.press c.repeat_export.ensures.shows
    c.in-Ok.field-0 (record started { instance = c.repeat_export.new.self }) refl refl c.requires.empty c.requires.room c.in-Ok.ensures.moves

pub returns-in-Err-clause-refused : goal.returns-in-Err-clause-refused
returns-in-Err-clause-refused g c site session ends ready =
    let D : Type 0 = g.row.D.Denot in
    let started = c.args.started in
    let new : InstanceValue D g.row.O.Denot = c.repeat_export.new.self in
    let back = c.stop.result in
    let fault = c.in-Err.fault in
    let s = c.stop.ensures in
    let desks = c.repeat_export.ensures.desks in
    subst (λ (f : OpenFault). IsClosedAgain g.D.Disk g.G.Signer.state g.O.Outlet site session f ends back) (sym c.export_fault.ensures)
    (closed_again g.D.Disk g.G.Signer.state g.O.Outlet site session _ ends back started.instance.desks ready.ends_of.desks_are
    (subst (λ (l : _). AreClosed g.D.Disk l back.desks.items) desks s.desks)
    (signers_kept g.D.Disk g.G.Signer.state g.O.Outlet site session ends started.instance started.summary c.requires.sheet ready new desks c.repeat_export.ensures.press c.repeat_export.ensures.shows fault back s.signers c.in-Err.ensures.moves)
    (stopped_with g.D.Disk g.G.Signer.state g.O.Outlet site session ends started.instance started.summary c.requires.sheet ready new desks c.repeat_export.ensures.press c.repeat_export.ensures.shows fault back s.safe s.desks s.press s.signers s.outlet c.in-Err.ensures.moves))
