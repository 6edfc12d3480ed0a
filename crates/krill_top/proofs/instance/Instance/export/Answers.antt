use Rattle.std.proofs.Common.{◌≡◌, sym, ap, subst}
use Rattle.press_core.specs.Stored.{StoredValue}
use Rattle.press_core.specs.Exports.{ended_by}
use Rattle.krill_top.specs.InstanceState.{outlet_state}
use Rattle.krill_top.specs.Exports.{ExportsOrStops}
use Rattle.press_core.specs.declared.last_export.LastExport.{LastExport}
use Rattle.manager.specs.Pressing.{exported_as}
use Rattle.manager.specs.Ready.{ShowsItsLast}
use Rattle.krill_top.specs.inner.Instances.{InstanceValue, IsInstance, Moves, stored_in}
use Rattle.krill_top.proofs.Exporting.{IsExportOf, exported_moves, shows_itself}
use Rattle.krill_top.proofs.Publishing.{instance_on}
use Rattle.krill_top.proofs.instance.Instance.export.Goals as goal

pub invariant_of-self : goal.invariant_of-self
invariant_of-self g c =
    let old : InstanceValue g.row.D.Denot g.row.O.Denot = record { desks = c.self.inside.desks; press = c.self.inside.press.press; journal = c.self.inside.press.journal; sheet = c.self.inside.sheet; signers = c.self.inside.signers; outlet = c.self.inside.outlet } in
    let outlet = c.export_to.new.outlet in
    let e = c.export_to.ensures in
    let is : IsExportOf c.export_to.result old.press (outlet_state g.O.Outlet old.outlet) (outlet_state g.O.Outlet outlet) = record { done = e.done; front = e.front; coherent = e.coherent; shown = e.shown; counts = e.counts; cause = e.cause } in
    let moves = exported_moves g.D.Disk g.O.Outlet c.more_editions_stay_shown.ensures.files old c.export_to.result outlet is in
    subst (λ (s : StoredValue g.row.D.Denot). IsInstance g.O.Outlet (record old { press = s.press; journal = s.journal; outlet = outlet })) (λ i. record { press = sym e.kept i; journal = sym e.journal i })
    (instance_on g.O.Outlet g.D.Disk (ExportsOrStops c.export_to.result) old (record old { press = record old.press { last_export = ended_by c.export_to.result old.press.at.serial }; outlet = outlet }) moves c.self.invariant)

pub returns-clause-moves : goal.returns-clause-moves
returns-clause-moves g c =
    let D : Type 0 = g.row.D.Denot in
    let old : InstanceValue D g.row.O.Denot = record { desks = c.self.inside.desks; press = c.self.inside.press.press; journal = c.self.inside.press.journal; sheet = c.self.inside.sheet; signers = c.self.inside.signers; outlet = c.self.inside.outlet } in
    let outlet = c.export_to.new.outlet in
    let e = c.export_to.ensures in
    let is : IsExportOf c.export_to.result old.press (outlet_state g.O.Outlet old.outlet) (outlet_state g.O.Outlet outlet) = record { done = e.done; front = e.front; coherent = e.coherent; shown = e.shown; counts = e.counts; cause = e.cause } in
    let moves = exported_moves g.D.Disk g.O.Outlet c.more_editions_stay_shown.ensures.files old c.export_to.result outlet is in
    subst (λ (o : InstanceValue D g.row.O.Denot). Moves g.D.Disk g.O.Outlet (ExportsOrStops c.export_to.result) o (record old { press = c.export_to.new.self.press; journal = c.export_to.new.self.journal; outlet = outlet })) c.self.view_is
    (subst (λ (s : StoredValue D). Moves g.D.Disk g.O.Outlet (ExportsOrStops c.export_to.result) old (record old { press = s.press; journal = s.journal; outlet = outlet })) (λ i. record { press = sym e.kept i; journal = sym e.journal i }) moves)

pub returns-clause-desks : goal.returns-clause-desks
returns-clause-desks g c = ap (λ (o : InstanceValue g.row.D.Denot g.row.O.Denot). o.desks) c.self.view_is

pub returns-clause-press : goal.returns-clause-press
returns-clause-press g c =
    let D : Type 0 = g.row.D.Denot in
    let old : InstanceValue D g.row.O.Denot = record { desks = c.self.inside.desks; press = c.self.inside.press.press; journal = c.self.inside.press.journal; sheet = c.self.inside.sheet; signers = c.self.inside.signers; outlet = c.self.inside.outlet } in
    let new : StoredValue D = c.export_to.new.self in
    let e = c.export_to.ensures in
    let exports : new ≡ exported_as (ended_by c.export_to.result old.press.at.serial) (stored_in old) = (λ i. record { press = e.kept i; journal = e.journal i }) in
    subst (λ (o : InstanceValue D g.row.O.Denot). new ≡ exported_as new.press.last_export (stored_in o)) c.self.view_is
    (subst (λ (last : LastExport). new ≡ exported_as last (stored_in old)) (sym (ap (λ (s : StoredValue D). s.press.last_export) exports)) exports)

pub returns-clause-shows : goal.returns-clause-shows
returns-clause-shows g c =
    let D : Type 0 = g.row.D.Denot in
    let old : InstanceValue D g.row.O.Denot = record { desks = c.self.inside.desks; press = c.self.inside.press.press; journal = c.self.inside.press.journal; sheet = c.self.inside.sheet; signers = c.self.inside.signers; outlet = c.self.inside.outlet } in
    let outlet = c.export_to.new.outlet in
    let new : StoredValue D = c.export_to.new.self in
    let e = c.export_to.ensures in
    let is : IsExportOf c.export_to.result old.press (outlet_state g.O.Outlet old.outlet) (outlet_state g.O.Outlet outlet) = record { done = e.done; front = e.front; coherent = e.coherent; shown = e.shown; counts = e.counts; cause = e.cause } in
    let exports : new ≡ exported_as (ended_by c.export_to.result old.press.at.serial) (stored_in old) = (λ i. record { press = e.kept i; journal = e.journal i }) in
    subst (λ (o : InstanceValue D g.row.O.Denot). ShowsItsLast g.O.Outlet (stored_in o) o.outlet → ShowsItsLast g.O.Outlet new outlet) c.self.view_is
    (λ was. subst (λ (s : StoredValue D). ShowsItsLast g.O.Outlet s outlet) (sym exports)
    (shows_itself g.D.Disk g.O.Outlet c.more_editions_stay_shown.ensures.files old c.export_to.result outlet is was))
