use Rattle.std.proofs.Common.{rules}
use Rattle.std.proofs.lemmas.Fn.{always_returns_same, dedup_same}
use Rattle.std.proofs.lemmas.List.Sorted.{IsNonDecreasingBy-from_sort_by_key}
use Rattle.key_roll.specs.declared.rows.RevokedRow.{RevokedRow}
use Rattle.issue_drafts.proofs.Sorted.{same, kept-rows, firsts-are}
use Rattle.issue_drafts.proofs.first_entries.first_of_each.Goals as goal

pub returns : goal.returns
returns c =
    let sorted = c.sort_by_key.new.self.items in
    firsts-are c.args.rows.items sorted c.dedup_by_key.new.self.items
    (kept-rows c.args.rows.items sorted
    (c.in_ok-sort_by_key.ensures.stable (λ (r : RevokedRow). r.serial) (always_returns_same _ _ _ (λ a r f called. search rules))))
    (IsNonDecreasingBy-from_sort_by_key (λ (r : RevokedRow). r.serial) sorted c.in_ok-sort_by_key.ensures.sorted (λ a r f called. search rules))
    (dedup_same _ same _ (λ x y b f x' y' called. search rules) sorted c.dedup_by_key.new.self.items c.dedup_by_key.ensures.filtered)
