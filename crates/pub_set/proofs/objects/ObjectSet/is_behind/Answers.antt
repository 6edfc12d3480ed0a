use Rattle.pub_set.specs.Objects.{IsAscending}
use Rattle.pub_set.proofs.Places.{behind_iff_last}
use Rattle.pub_set.proofs.objects.ObjectSet.is_behind.Goals as goal

pub returns-in-Some : goal.returns-in-Some
returns-in-Some c =
    let os = c.deref.result.now in
    let up : IsAscending os = rw c.deref.ensures.value c.self.invariant in
    let item = c.in-Some.ensures.item in
    rw (c.lt.ensures, c.as_str.ensures, ← c.self.view_is, ← c.deref.ensures.value)
    (behind_iff_last os c.args.uri.now c.in-Some.object.now up item.3.0 item.1)
