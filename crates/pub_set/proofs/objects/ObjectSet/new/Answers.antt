use Rattle.pub_set.specs.laws.LookupLaws.{rise-nil}
use Rattle.pub_set.specs.Objects.{uri_at}
use Rattle.pub_set.proofs.objects.ObjectSet.new.Goals as goal

pub invariant_of-result : goal.invariant_of-result
invariant_of-result c = rw c.new.ensures.items (rise-nil uri_at)
