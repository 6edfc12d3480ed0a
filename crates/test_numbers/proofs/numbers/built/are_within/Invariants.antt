use Rattle.std.proofs.Common.{◌≡◌, ◌<◌, ℕ, take, true}
use Rattle.res_sets.specs.Numbers.{family_end, any_spans}
use Rattle.test_numbers.proofs.numbers.built.are_within.Given as goal

abbrev pub invariant-loop-range : goal.invariant-loop-range
invariant-loop-range l = (n : ℕ) → any_spans (take l.range-index l.ranges) n ≡ true → n < family_end l.fn.family
