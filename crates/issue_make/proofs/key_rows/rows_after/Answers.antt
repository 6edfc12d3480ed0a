use Rattle.std.proofs.Common.{rules, List, sym, subst}
use Rattle.std.specs.List.Sorted.{IsPermutation, IsSortedBy, IsStableBy}
use Rattle.std.proofs.lemmas.Fn.{always_returns_same}
use Rattle.key_roll.specs.declared.rows.KeyRow.{KeyRow}
use Rattle.issue_make.specs.Trace.{is_before}
use Rattle.issue_make.proofs.KeyOrder.{before-order, rows-after-are, rows-after-stand}
use Rattle.issue_make.proofs.key_rows.rows_after.Goals as goal

pub returns-clause-rows : goal.returns-clause-rows
returns-clause-rows c = λ s trace after.
    rows-after-are s trace c.args.moment c.args.keys.now c.args.points.now c.args.next.now c.args.revoked.items
    c.in_ok-rows.rows.items c.new.result after c.in_ok-rows.ensures
    (subst (IsPermutation c.in_ok-rows.rows.items) (sym c.new.ensures) c.in_ok-sort_by.ensures.permutation)

pub returns-clause-sorted : goal.returns-clause-sorted
returns-clause-sorted c =
    subst (λ (l : List KeyRow). IsSortedBy is_before l) (sym c.new.ensures)
    (c.in_ok-sort_by.ensures.sorted is_before before-order
    (always_returns_same _ _ _ (λ a r f called. search rules)))

pub returns-clause-stable : goal.returns-clause-stable
returns-clause-stable c = λ s trace after.
    rows-after-stand s trace c.args.moment c.args.keys.now c.args.points.now c.args.next.now c.args.revoked.items
    c.in_ok-rows.rows.items c.new.result after c.in_ok-rows.ensures
    (subst (λ (l : List KeyRow). IsStableBy is_before c.in_ok-rows.rows.items l) (sym c.new.ensures)
    (c.in_ok-sort_by.ensures.stable is_before before-order
    (always_returns_same _ _ _ (λ a r f called. search rules))))
