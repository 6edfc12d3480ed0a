use Rattle.std.proofs.Common.{ℕ, nat_lt, rules}
use Rattle.std.proofs.lemmas.List.Sorted.{IsPartitionPoint-from_clause, IsPartitionedBy-ltb}
use Rattle.issue_drafts.proofs.Rising.{below-test, above-test}
use Rattle.issue_drafts.proofs.key_lookup.first_not_below.Goals as goal

pub returns-clause-below : goal.returns-clause-below
returns-clause-below c =
    λ rising.
    below-test c.args.desks.now c.args.desk c.partition_point.result
    (IsPartitionPoint-from_clause (λ (d : ℕ). nat_lt d c.args.desk) c.args.desks.now c.partition_point.result c.partition_point.ensures.partitioned
    (IsPartitionedBy-ltb (λ (d : ℕ). d) c.args.desks.now c.args.desk rising) (λ a r f called. search rules))

pub returns-clause-above : goal.returns-clause-above
returns-clause-above c =
    λ rising.
    above-test c.args.desks.now c.args.desk c.partition_point.result
    (IsPartitionPoint-from_clause (λ (d : ℕ). nat_lt d c.args.desk) c.args.desks.now c.partition_point.result c.partition_point.ensures.partitioned
    (IsPartitionedBy-ltb (λ (d : ℕ). d) c.args.desks.now c.args.desk rising) (λ a r f called. search rules))
