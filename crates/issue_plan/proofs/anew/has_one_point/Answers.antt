use Rattle.std.proofs.Common.{sym, ◌∙◌}
use denote.Ref.{Bor}
use Rattle.key_roll.specs.declared.issued.IssuedRow.{IssuedRow}
use Rattle.issue_plan.specs.Fits.{is_in_place}
use Rattle.issue_plan.proofs.BesideLemmas.{all-here, all-more}
use Rattle.issue_plan.proofs.anew.has_one_point.Goals as goal

pub returns-then-not-is_in_place : goal.returns-then-not-is_in_place
returns-then-not-is_in_place c =
    all-here (is_in_place c.args.key.now c.args.crl.now c.args.manifest.now) (λ (row : Bor IssuedRow). row.now)
    c.args.rows.now c.loop-row.row-index c.row-item.result c.loop-row-test.true c.row-item.is
    (sym c.is_in_place.ensures ∙ c.if-not-is_in_place.true)

pub loop-row-preserved : goal.loop-row-preserved
loop-row-preserved c =
    all-more (is_in_place c.args.key.now c.args.crl.now c.args.manifest.now) (λ (row : Bor IssuedRow). row.now)
    c.args.rows.now c.loop-row.row-index c.row-item.result c.loop-row-test.true c.row-item.is c.loop-row.invariant
    (sym c.is_in_place.ensures ∙ c.if-not-is_in_place.false)
