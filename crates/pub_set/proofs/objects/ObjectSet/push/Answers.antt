use Rattle.pub_set.specs.laws.LookupLaws.{rise-push}
use Rattle.pub_set.specs.Objects.{uri_at}
use Rattle.pub_set.proofs.objects.ObjectSet.push.Goals as goal

pub invariant_of-self-2 : goal.invariant_of-self-2
invariant_of-self-2 c =
    rw c.in_ok-push.ensures.items (rise-push uri_at c.self.inside.objects.items c.args.object c.self.invariant (rw (← c.self.view_is) at c.requires))
