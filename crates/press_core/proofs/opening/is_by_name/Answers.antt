use Rattle.std.proofs.Common.{List, subst}
use Rattle.key_roll.specs.declared.issued.IssuedRow.{IssuedRow}
use Rattle.editions.specs.PublishedState.{PublishedStateValue}
use Rattle.issue_plan.specs.ByName.{StandByName}
use Rattle.press_core.proofs.opening.is_by_name.Goals as goal

pub returns-in-Ok : goal.returns-in-Ok
returns-in-Ok c = λ known.
    subst (λ (at : PublishedStateValue). StandByName c.args.site.now at.issued) c.parts.ensures.parts
    (subst (λ (rows : List IssuedRow). StandByName c.args.site.now rows) c.as_slice.ensures (c.in-Ok.ensures known))
