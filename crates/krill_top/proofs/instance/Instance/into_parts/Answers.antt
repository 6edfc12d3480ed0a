use Rattle.std.proofs.Common.{◌≡◌, ◌∙◌, sym, ap, length}
use Rattle.krill_top.specs.inner.Instances.{InstanceValue}
use Rattle.krill_top.proofs.instance.Instance.into_parts.Goals as goal

pub returns-clause-signers : goal.returns-clause-signers
returns-clause-signers g c =
    c.self.invariant.stands.counted ∙ ap length (sym c.self.invariant.stands.ring)
    ∙ ap (λ (o : InstanceValue g.row.D.Denot g.row.O.Denot). length o.press.ring) c.self.view_is
