use Rattle.std.proofs.Common.{◌∙◌, ap, sym, subst}
use Rattle.notice_board.specs.declared.sheets.Sheet.{Sheet}
use Rattle.krill_top.specs.inner.Instances.{InstanceValue, IsInState}
use Rattle.krill_top.proofs.instance.Instance.serial.Goals as goal

pub returns : goal.returns
returns g c state stands =
    let s = subst (λ (o : InstanceValue g.row.D.Denot g.row.O.Denot). IsInState g.O.Outlet o state) (sym c.self.view_is) stands in
    ap (λ (sheet : Sheet). sheet.serial) s.sheet ∙ s.left.serial
