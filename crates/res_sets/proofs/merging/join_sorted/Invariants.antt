use Rattle.std.proofs.Common.{◌≡◌, ℕ, ◌<◌, ◌≤◌, take, length, get_or}
use Rattle.res_sets.specs.declared.numbers.Range.{Range}
use Rattle.res_sets.specs.Numbers.{any_spans, RisesFrom}
use Rattle.res_sets.specs.Merging.{last_first}
use Rattle.res_sets.proofs.merging.join_sorted.Given as goal

abbrev pub invariant-loop-range : goal.invariant-loop-range
invariant-loop-range l = record {
  rises : RisesFrom 0 l.out.items;
  behind : (k : ℕ) (d : Range) → l.range-index ≤ k → k < length l.ranges → last_first l.out.items ≤ (get_or l.ranges k d).first;
  members : (n : ℕ) → any_spans l.out.items n ≡ any_spans (take l.range-index l.ranges) n;
}
