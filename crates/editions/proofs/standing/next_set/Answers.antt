use Rattle.std.proofs.Common.{sym, subst, List}
use Rattle.pub_set.specs.declared.objects.Object.{Object}
use Rattle.pub_set.specs.Changes.{uri_of, IsApplied}
use Rattle.editions.specs.Joining.{IsJoined}
use Rattle.editions.specs.Standing.{object_after}
use Rattle.editions.proofs.StateLemmas.Carried.{applied}
use Rattle.editions.proofs.standing.next_set.Goals as goal

pub returns : goal.returns
returns c =
    let items = c.in_ok-objects.objects.items in
    let joined : IsJoined (λ (o : Object). o.uri) uri_of (λ (o : Object). o.uri) object_after c.args.old.now c.args.changes.now items =
    subst (λ (l : List Object). IsJoined (λ (o : Object). o.uri) uri_of (λ (o : Object). o.uri) object_after l c.args.changes.now items)
    c.as_slice.ensures.objects c.in_ok-objects.ensures in
    subst (IsApplied c.args.old.now c.args.changes.now) (sym c.in_ok-set.ensures)
    (applied c.args.old.now items c.args.changes.now c.requires joined)
