use Rattle.std.proofs.Common.{◌≡◌, ◌-◌, true, false, rules, take, drop, length}
use Rattle.std.specs.List.Sorted.{IsPartitionPoint}
use Rattle.std.specs.Ordering.{is_lt}
use Rattle.std.proofs.lemmas.List.Sorted.{IsPartitionPoint-from_clause}
use Rattle.key_roll.specs.declared.issued.IssuedRow.{IssuedRow}
use Rattle.pub_set.specs.Objects.{uri_cmp}
use Rattle.issue_drafts.specs.inner.Holdings.{is_inside}
use Rattle.issue_drafts.proofs.Foldered.{before-first, inside-rest, folder-found}
use Rattle.issue_drafts.proofs.holdings.in_folder.Goals as goal

pub returns : goal.returns
returns c =
    let rows = c.args.issued.now in
    let folder = c.args.folder.now in
    let n = c.partition_point-from.result in
    let m = c.partition_point-count.result in
    let rest = take (length rows - n) (drop n rows) in
    let first : IsPartitionPoint (λ (r : IssuedRow). is_lt (uri_cmp r.uri folder) ≡ true) (λ (r : IssuedRow). is_lt (uri_cmp r.uri folder) ≡ false) rows n =
    IsPartitionPoint-from_clause (λ (r : IssuedRow). is_lt (uri_cmp r.uri folder)) rows n
    c.partition_point-from.ensures.partitioned (before-first rows folder c.requires)
    (λ a r f called. search rules) in
    let second : IsPartitionPoint (λ (r : IssuedRow). is_inside folder r ≡ true) (λ (r : IssuedRow). is_inside folder r ≡ false) rest m =
    IsPartitionPoint-from_clause (is_inside folder) rest m
    c.partition_point-count.ensures.partitioned (inside-rest rows folder n c.requires first)
    (λ a r f called. search rules) in
    folder-found rows folder n m c.partition_point-from.ensures.bound first c.partition_point-count.ensures.bound second
