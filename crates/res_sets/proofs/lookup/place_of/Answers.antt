use Rattle.std.proofs.Common.{nat_lt, rules}
use Rattle.std.proofs.lemmas.Bool.{ltb-true, ltb-false}
use Rattle.std.proofs.lemmas.List.Sorted.{IsPartitionPoint-from_clause}
use Rattle.res_sets.specs.declared.numbers.Range.{Range}
use Rattle.res_sets.proofs.Lookups.{IsPartitionedBy-last}
use Rattle.res_sets.proofs.lookup.place_of.Goals as goal

pub returns-clause-before : goal.returns-clause-before
returns-clause-before c =
    let point = IsPartitionPoint-from_clause (λ (r : Range). nat_lt r.last c.args.n) c.args.ranges.now c.partition_point.result c.partition_point.ensures.partitioned (IsPartitionedBy-last 0 c.args.ranges.now c.args.n c.requires) (λ a r f called. search rules) in
    λ k d low high. ltb-true _ _ (point.0 k d low high)

pub returns-clause-behind : goal.returns-clause-behind
returns-clause-behind c =
    let point = IsPartitionPoint-from_clause (λ (r : Range). nat_lt r.last c.args.n) c.args.ranges.now c.partition_point.result c.partition_point.ensures.partitioned (IsPartitionedBy-last 0 c.args.ranges.now c.args.n c.requires) (λ a r f called. search rules) in
    λ k d low high. ltb-false _ _ (point.1 k d low high)
