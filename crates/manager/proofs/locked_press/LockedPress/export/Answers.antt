use Rattle.std.proofs.Common.{◌≢◌, ◌≤◌, ◌∙◌, sym, ap, subst, arith}
use Rattle.std.specs.Prelude.{IfErr}
use Rattle.std.proofs.lemmas.Result.{IfErr-weaker}
use Rattle.outlet_api.specs.Faults.{IsCauseOf}
use Rattle.gate_journal.specs.View.{View as JournalView}
use Rattle.press_core.specs.Exports.{ended_by}
use Rattle.press_core.specs.Stored.{StoredValue}
use Rattle.manager.specs.Locked.{LockedValue, IsLocked}
use Rattle.manager.specs.Pressing.{exported_as}
use Rattle.manager.specs.Risen.{IsRisenPress}
use Rattle.manager.proofs.Risen.{export_rise}
use Rattle.manager.proofs.Kept.{lock}
use Rattle.manager.proofs.Exporting.{locked_exported, exported_then}
use Rattle.manager.proofs.locked_press.LockedPress.export.Goals as goal

pub export_to-requires : goal.export_to-requires
export_to-requires g c = subst (λ (l : LockedValue _ _). l.press.press.at.serial ≢ 0) (sym c.self.view_is) c.requires

pub invariant_of-self : goal.invariant_of-self
invariant_of-self g c =
    let inside = c.self.inside in
    let is = c.self.invariant.0 in (
      subst (λ (s : StoredValue _). IsLocked g.O.Outlet g.N.Names.named (lock s inside.followers inside.board c.export_to.new.outlet)) (sym (exported_then inside.press c.export_to.new.self (ended_by c.export_to.result inside.press.press.at.serial) c.export_to.ensures.kept c.export_to.ensures.journal)) (record {
        lists = is.lists;
        run = is.run;
        calls = is.calls;
        editions = is.editions;
        found = is.found;
        each = λ editions found. locked_exported g.O.Outlet g.N.Names.named editions c.more_editions_stay_shown.ensures.files is.lists is.run is.calls inside.press inside.followers inside.board inside.outlet c.export_to.new.outlet (is.each editions found) c.export_to.result
            (record { coherent = c.export_to.ensures.coherent; shown = c.export_to.ensures.shown });
      }),
      subst (λ (j : JournalView _). IsRisenPress g.D.Disk g.O.Outlet g.N.Names.named j c.export_to.new.outlet) (sym c.export_to.ensures.journal) (record {
        disk = c.self.invariant.1.disk;
        outlet_later = omega (arith, c.self.invariant.1.outlet_later, c.export_to.ensures.counts);
      }),
    )

pub returns-clause-counts : goal.returns-clause-counts
returns-clause-counts g c = subst (λ (l : LockedValue _ _). g.O.Outlet.fault_count l.outlet ≤ g.O.Outlet.fault_count c.export_to.new.outlet) c.self.view_is c.export_to.ensures.counts

pub returns-clause-cause : goal.returns-clause-cause
returns-clause-cause g c =
    subst (λ (l : LockedValue _ _). IfErr c.export_to.result (IsCauseOf (g.O.Outlet.fault_count l.outlet) (g.O.Outlet.fault_count c.export_to.new.outlet))) c.self.view_is c.export_to.ensures.cause

pub returns-clause-since : goal.returns-clause-since
returns-clause-since g c =
    IfErr-weaker c.export_to.result _ _
    (λ fault is. export_rise g.N.Names.named.faults.outlet (g.O.Outlet.fault_count c.self.inside.outlet) (g.O.Outlet.fault_count c.export_to.new.outlet) fault c.self.invariant.1.outlet_later is) c.export_to.ensures.cause

pub returns-clause-ended : goal.returns-clause-ended
returns-clause-ended g c =
    exported_then c.self.inside.press c.export_to.new.self (ended_by c.export_to.result c.self.inside.press.press.at.serial) c.export_to.ensures.kept c.export_to.ensures.journal
    ∙ ap (λ (l : LockedValue _ _). exported_as (ended_by c.export_to.result l.press.press.at.serial) l.press) c.self.view_is
