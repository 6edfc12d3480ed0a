use Rattle.std.proofs.Common.{sym, ◌∙◌}
use denote.Ref.{Bor}
use Rattle.key_roll.specs.declared.issued.IssuedRow.{IssuedRow}
use Rattle.issue_plan.specs.Serves.{is_for}
use Rattle.issue_plan.proofs.BesideLemmas.{find-here, find-more}
use Rattle.issue_plan.proofs.firsts.first_for.Goals as goal

pub returns-then-is_for : goal.returns-then-is_for
returns-then-is_for c =
    find-here (λ (row : IssuedRow). is_for c.args.key.now row.what) (λ (row : Bor IssuedRow). row.now)
    c.args.rows.now c.loop-row.row-index c.row-item.result c.loop-row-test.true c.row-item.is c.loop-row.invariant
    (sym c.is_for.ensures ∙ c.if-is_for.true)

pub loop-row-preserved : goal.loop-row-preserved
loop-row-preserved c =
    find-more (λ (row : IssuedRow). is_for c.args.key.now row.what) (λ (row : Bor IssuedRow). row.now)
    c.args.rows.now c.loop-row.row-index c.row-item.result c.loop-row-test.true c.row-item.is c.loop-row.invariant
    (sym c.is_for.ensures ∙ c.if-is_for.false)
