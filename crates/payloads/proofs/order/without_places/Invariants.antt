use Rattle.std.proofs.Common.{◌≡◌, ◌++◌, map}
use Rattle.std.specs.Vec.Iter.{into_iter_items}
use Rattle.payloads.proofs.order.without_places.Given as goal

abbrev pub invariant-loop-item : goal.invariant-loop-item
invariant-loop-item g l = l.out.items ++ map (λ x. x.1) (into_iter_items l.item-iterator) ≡ map (λ x. x.1) l.fn.items.items
