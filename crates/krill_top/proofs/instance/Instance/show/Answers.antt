use Rattle.std.proofs.Common.{sym, subst}
use Rattle.krill_top.specs.inner.Instances.{InstanceValue, IsInState}
use Rattle.krill_top.proofs.Answering.{if_ok_so}
use Rattle.krill_top.proofs.instance.Instance.show.Goals as goal

pub returns : goal.returns
returns g c = if_ok_so c.show.result _ _ c.show.ensures (λ text is state stands.
    let s = subst (λ (o : InstanceValue g.row.D.Denot g.row.O.Denot). IsInState g.O.Outlet o state) (sym c.self.view_is) stands in
    (c.self.inside.sheet, record { published_state = c.self.inside.press.press.at; left = s.left; kept = s.kept; is = s.sheet }, is state.desk_states s.desks))
