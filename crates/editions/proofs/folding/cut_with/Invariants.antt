use Rattle.std.proofs.Common.{◌≡◌, length, drop}
use Rattle.editions.specs.Gathering.{cut_with}
use Rattle.editions.proofs.folding.cut_with.Given as goal

abbrev pub invariant-loop-group : goal.invariant-loop-group
invariant-loop-group l = record {
  rest : cut_with l.next.items (drop l.group-index l.gathered) ≡ cut_with l.cut l.gathered;
  long : length l.next.items ≡ length l.cut;
}
