use Rattle.std.proofs.Common.{sym, rules}
use Rattle.std.proofs.lemmas.List.Sorted.{IsNonDecreasingBy-from_sort_by_key, list_any-IsPermutation}
use Rattle.res_sets.specs.declared.numbers.Range.{Range}
use Rattle.res_sets.specs.Numbers.{spans}
use Rattle.res_sets.proofs.merging.sort_by_first.Goals as goal

pub returns-clause-sorted : goal.returns-clause-sorted
returns-clause-sorted c =
    IsNonDecreasingBy-from_sort_by_key (λ (range : Range). range.first) _ c.sort_unstable_by_key.ensures.sorted (λ a r f called. search rules)

pub returns-clause-members : goal.returns-clause-members
returns-clause-members c n = sym (list_any-IsPermutation (λ (range : Range). spans range n) _ _ c.sort_unstable_by_key.ensures.permutation)
