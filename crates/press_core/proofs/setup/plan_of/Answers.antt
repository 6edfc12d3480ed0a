use Rattle.std.proofs.Common.{sym, subst}
use Rattle.key_roll.specs.declared.issued.IssuedRow.{IssuedRow}
use Rattle.pub_set.specs.Objects.{Rise}
use Rattle.editions.specs.PublishedState.{PublishedStateValue}
use Rattle.issue_plan.specs.ByName.{StandByName}
use Rattle.press_core.proofs.setup.plan_of.Goals as goal

pub plan-requires-clause-rising : goal.plan-requires-clause-rising
plan-requires-clause-rising c =
    subst (λ (at : PublishedStateValue). Rise (λ (row : IssuedRow). row.uri) at.issued) (sym c.parts-parts.ensures.parts)
    c.parts-parts.ensures.kept.rising

pub plan-requires-clause-stand : goal.plan-requires-clause-stand
plan-requires-clause-stand c = λ known.
    subst (λ (at : PublishedStateValue). StandByName c.args.site.now at.issued) (sym c.parts-parts.ensures.parts)
    (c.requires.stand known)
