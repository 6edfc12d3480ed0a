use Rattle.std.proofs.Common.{◌≡◌, ◌++◌, length}
use Rattle.std.specs.Vec.Iter.{into_iter_items, into_iter_len}
use Rattle.editions.proofs.standing.set_of.Given as goal

abbrev pub invariant-loop-object : goal.invariant-loop-object
invariant-loop-object l = record {
  all : l.set ++ into_iter_items l.object-iterator ≡ l.fn.objects.items;
  left : into_iter_len l.object-iterator ≡ length (into_iter_items l.object-iterator);
}
