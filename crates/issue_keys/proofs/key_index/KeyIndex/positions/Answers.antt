use Rattle.std.proofs.Common.{◌≡◌, true, false, rules, take, drop, length, ◌-◌, sym, subst}
use Rattle.std.specs.List.Sorted.{IsPartitionPoint}
use Rattle.std.specs.Ordering.{is_lt}
use Rattle.std.proofs.lemmas.List.Sorted.{IsPartitionPoint-from_clause}
use Rattle.issue_keys.specs.declared.key_index.KeyPosition.{KeyPosition}
use Rattle.issue_keys.specs.Under.{id_cmp, is_under, AreByKey}
use Rattle.issue_keys.proofs.Runs.{below-first, under-rest, run-found}
use Rattle.issue_keys.proofs.key_index.KeyIndex.positions.Goals as goal

pub returns : goal.returns
returns c =
    let items = c.self.inside.entries.items in
    let xs = c.deref.result.now in
    let ys = c.deref-2.result.now in
    let id = c.args.key.now.bytes in
    let n = c.partition_point-from.result in
    let m = c.partition_point-count.result in
    let first : IsPartitionPoint (λ (e : KeyPosition). is_lt (id_cmp e.key.bytes id) ≡ true) (λ (e : KeyPosition). is_lt (id_cmp e.key.bytes id) ≡ false) xs n =
    IsPartitionPoint-from_clause (λ (e : KeyPosition). is_lt (id_cmp e.key.bytes id)) xs n c.partition_point-from.ensures.partitioned
    (below-first xs id (subst AreByKey (sym c.deref.ensures.value) c.self.invariant)) (λ a r f called. search rules) in
    let second : IsPartitionPoint (λ (e : KeyPosition). is_under id e ≡ true) (λ (e : KeyPosition). is_under id e ≡ false) (take (length ys - n) (drop n ys)) m =
    IsPartitionPoint-from_clause (λ (e : KeyPosition). is_under id e) (take (length ys - n) (drop n ys)) m c.partition_point-count.ensures.partitioned
    (under-rest items xs ys id n c.deref.ensures.value c.deref-2.ensures.value c.self.invariant first) (λ a r f called. search rules) in
    run-found items xs ys c.args.self.now id n m c.deref.ensures.value c.deref-2.ensures.value (sym c.self.view_is)
    c.partition_point-from.ensures.bound first c.partition_point-count.ensures.bound second
