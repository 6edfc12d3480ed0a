use Rattle.std.proofs.Common.{◌≡◌, arith}
use Rattle.origins.specs.declared.Origin.{Origin}
use Rattle.key_roll.specs.declared.issued.IssuedRow.{IssuedRow}
use Rattle.key_roll.specs.declared.issued.What.TheVariants.{Route}
use Rattle.issue_plan.specs.ByName.{IsRoaUri}
use Rattle.issue_plan.proofs.PlaceLemmas.{named-more}
use Rattle.issue_plan.proofs.by_name.stand_by_name.Goals as goal

pub loop-row-init : goal.loop-row-init
loop-row-init c = λ k d below. absurd (omega (arith, below))

pub loop-row-preserved : goal.loop-row-preserved
loop-row-preserved c =
    named-more (λ (row : IssuedRow). (origin : Origin) → row.what ≡ Route origin → IsRoaUri c.args.site.now origin row.uri)
    c.args.issued.now c.loop-row.row-index c.row-item.result c.loop-row-test.true c.row-item.is c.loop-row.invariant
    (c.in_ok-stands_by_name.ensures c.if-not-branch.false)

pub returns : goal.returns
returns c = λ so. record {
  roas = λ k d inside. let done = c.loop-row-test.false in c.loop-row.invariant k d (omega (arith, inside, done));
}
