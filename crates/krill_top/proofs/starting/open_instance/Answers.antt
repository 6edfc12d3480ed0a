use Rattle.std.proofs.Common.{◌≡◌, ◌∙◌, List, sym, ap, subst}
use Rattle.gate_journal.specs.View.{IsSafe}
use Rattle.desk_core.specs.View.{View}
use Rattle.editions.specs.Sheets.{sheet_of}
use Rattle.press_core.specs.Stored.{StoredValue}
use Rattle.krill_top.specs.declared.faults.OpenFault.{OpenFault}
use Rattle.krill_top.specs.declared.faults.OpenFault.TheVariants.{Memory}
use Rattle.krill_top.specs.Run.{IsClosedAgain}
use Rattle.krill_top.specs.inner.Opened.{AreClosed}
use Rattle.krill_top.proofs.Answering.{if_ok_so, if_err_so}
use Rattle.krill_top.proofs.StartedInstance.{ready_so, unmade_behind, closed_again}
use Rattle.krill_top.proofs.starting.open_instance.Goals as goal

pub export_first-requires-clause-sheet : goal.export_first-requires-clause-sheet
export_first-requires-clause-sheet g c =
    c.in-Ok.ensures.sheet ∙ ap (λ (s : StoredValue g.row.D.Denot). sheet_of s.press.at) (sym c.in-Ok.ensures.press)

pub returns-in-Ok-clause-started : goal.returns-in-Ok-clause-started
returns-in-Ok-clause-started g c =
    let is = c.in-Ok.ensures in
    if_ok_so c.export_first.result _ _ c.export_first.ensures.started (λ made so site session ends ready. so site session ends
    (ready_so g.D.Disk g.G.Signer.state g.O.Outlet site session ends _ _ _ _ _ _ _ _ _ is.desks is.outlet is.press is.signers ready))

pub returns-in-Ok-clause-refused : goal.returns-in-Ok-clause-refused
returns-in-Ok-clause-refused g c =
    let is = c.in-Ok.ensures in
    if_err_so c.export_first.result _ _ c.export_first.ensures.refused (λ refused so site session ends ready. so site session ends
    (ready_so g.D.Disk g.G.Signer.state g.O.Outlet site session ends _ _ _ _ _ _ _ _ _ is.desks is.outlet is.press is.signers ready))

pub returns-in-Err-clause-refused : goal.returns-in-Err-clause-refused
returns-in-Err-clause-refused g c site session ends ready =
    let D : Type 0 = g.row.D.Denot in
    let was = c.in-Err.ensures in
    let back = c.give_up.result.ends in
    let made = c.give_up.ensures in
    let press : c.in-Err.field-0.press ≡ c.args.opened.press = was.refused_press in
    let ring : c.close-press.result.1 ≡ c.args.opened.press.press.ring = c.close-press.ensures.ring ∙ ap (λ (p : StoredValue D). p.press.ring) press in
    subst (λ (f : OpenFault). IsClosedAgain g.D.Disk g.G.Signer.state g.O.Outlet site session f ends back) (sym made.fault)
    (closed_again g.D.Disk g.G.Signer.state g.O.Outlet site session Memory ends back c.args.beside.desks ready.ends_of.desks_are
    (subst (λ (l : List (View D)). AreClosed g.D.Disk l back.desks.items) was.refused_desks made.desks)
    (λ found all. made.signers ∙ ring ∙ sym ready.ends_of.signers_are)
    (unmade_behind g.D.Disk g.G.Signer.state g.O.Outlet site session ends c.args.beside.desks c.args.beside.outlet c.args.opened.press c.args.opened.summary c.args.signers ready back
    (subst (λ (p : StoredValue D). IsSafe g.D.Disk p.journal) press c.close-press.ensures.safe)
    (made.press ∙ c.close-press.ensures.disk ∙ ap (λ (p : StoredValue D). p.journal.disk) press)
    (made.outlet ∙ was.refused_outlet)))
