use Rattle.std.proofs.Common.{sym, subst}
use Rattle.krill_top.specs.inner.Instances.{InstanceValue, IsInState}
use Rattle.krill_top.proofs.instance.Instance.first_held.Goals as goal

pub returns : goal.returns
returns g c state stands =
    let s = subst (λ (o : InstanceValue g.row.D.Denot g.row.O.Denot). IsInState g.O.Outlet o state) (sym c.self.view_is) stands in
    c.first_held.ensures state.desk_states s.desks
