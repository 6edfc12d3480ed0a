use Rattle.std.proofs.Common.{◌≢◌, sym, ap, subst}
use Rattle.press_core.specs.Exports.{ended_by}
use Rattle.press_core.specs.Press.{PressValue}
use Rattle.press_core.specs.Stored.{StoredValue}
use Rattle.manager.specs.Ready.{IsReady}
use Rattle.manager.proofs.Exporting.{exported_then, ended_as}
use Rattle.manager.proofs.Ready.{ended_done, ready_exported}
use Rattle.manager.proofs.ready_store.ReadyStore.export_last.Goals as goal

pub returns-clause-press : goal.returns-clause-press
returns-clause-press g c =
    let old = c.args.self.now.opened.press in
    let last = ended_by c.export_to.result old.press.at.serial in
    ended_as old c.export_to.new.self last (exported_then old c.export_to.new.self last c.export_to.ensures.kept c.export_to.ensures.journal)

pub returns-clause-exported : goal.returns-clause-exported
returns-clause-exported g c =
    let serial = c.args.self.now.opened.press.press.at.serial in
    ended_done c.export_to.result serial c.export_to.new.self.press.last_export (serial ≢ 0) (ap (λ (p : PressValue). p.last_export) c.export_to.ensures.kept)

pub returns-clause-ready : goal.returns-clause-ready
returns-clause-ready g c = λ is.
    let opened = c.args.self.now.opened in
    let last = ended_by c.export_to.result opened.press.press.at.serial in
    subst (λ (s : StoredValue _). IsReady g.O.Outlet opened.desks.items s opened.board c.export_to.new.outlet)
    (sym (exported_then opened.press c.export_to.new.self last c.export_to.ensures.kept c.export_to.ensures.journal))
    (ready_exported c.more_editions_stay_shown.ensures.files g.O.Outlet opened.desks.items opened.press opened.board opened.outlet c.export_to.new.outlet c.export_to.result
    (record { coherent = c.export_to.ensures.coherent; shown = c.export_to.ensures.shown }) is)
