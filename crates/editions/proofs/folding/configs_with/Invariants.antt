use Rattle.std.proofs.Common.{◌≡◌, length}
use Rattle.std.specs.Vec.Iter.{into_iter_items, into_iter_len}
use Rattle.entitle.specs.Certified.{settings_of}
use Rattle.editions.specs.Gathering.{configs_with, AreAccepted, AreOfDesks}
use Rattle.editions.proofs.folding.configs_with.Given as goal

abbrev pub invariant-loop-group : goal.invariant-loop-group
invariant-loop-group l = record {
  rest : configs_with (settings_of l.next.items) (into_iter_items l.group-iterator) ≡ configs_with (settings_of l.configs) l.fn.gathered.items;
  accepted : AreAccepted (settings_of l.next.items) (into_iter_items l.group-iterator);
  desks : AreOfDesks (length l.next.items) (into_iter_items l.group-iterator);
  left : into_iter_len l.group-iterator ≡ length (into_iter_items l.group-iterator);
}
