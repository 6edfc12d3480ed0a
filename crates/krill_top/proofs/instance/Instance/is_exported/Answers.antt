use Rattle.std.proofs.Common.{◌≡◌, ℕ, true, sym, ◌∙◌, ap, subst}
use Rattle.press_core.specs.Press.{PressValue}
use Rattle.press_core.specs.declared.last_export.LastExport.{LastExport}
use Rattle.krill_top.specs.InstanceState.{is_exported_at}
use Rattle.krill_top.specs.inner.Instances.{InstanceValue, IsInState}
use Rattle.krill_top.proofs.instance.Instance.is_exported.Goals as goal

pub returns-clause-exported : goal.returns-clause-exported
returns-clause-exported g c state stands =
    let s = subst (λ (o : InstanceValue g.row.D.Denot g.row.O.Denot). IsInState g.O.Outlet o state) (sym c.self.view_is) stands in
    c.is_exported_at.ensures
    ∙ ap (λ (l : LastExport). is_exported_at l c.serial.result) (c.last_export.ensures ∙ ap (λ (p : PressValue). p.last_export) c.press-press.ensures.press ∙ s.exported)
    ∙ ap (λ (n : ℕ). is_exported_at state.exported n) (c.serial.ensures ∙ ap (λ (p : PressValue). p.at.serial) c.press-press.ensures.press ∙ s.left.serial)

pub returns-clause-some : goal.returns-clause-some
returns-clause-some g c unexported none =
    let serial : c.serial.result ≡ 0 = c.serial.ensures ∙ ap (λ (p : PressValue). p.at.serial) c.press-press.ensures.press ∙ ap (λ (o : InstanceValue g.row.D.Denot g.row.O.Denot). o.press.at.serial) c.self.view_is ∙ none in
    let exported : c.is_exported_at.result ≡ true = c.is_exported_at.ensures ∙ ap (λ (n : ℕ). is_exported_at c.last_export.result n) serial in
    absurd (cc)
