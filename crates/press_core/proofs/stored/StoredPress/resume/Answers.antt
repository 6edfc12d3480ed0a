use Rattle.std.proofs.Common.{sym, subst}
use Rattle.editions.specs.PublishedState.{PublishedStateValue}
use Rattle.issue_plan.specs.ByName.{StandByName}
use Rattle.press_core.specs.Press.{PressValue}
use Rattle.press_core.specs.Tables.{IsHashed}
use Rattle.press_core.proofs.GoingOn.{stored-so, whole, agreed}
use Rattle.press_core.proofs.stored.StoredPress.resume.Goals as goal

pub resumed-press-requires-clause-stand : goal.resumed-press-requires-clause-stand
resumed-press-requires-clause-stand g c = λ known.
    subst (λ (at : PublishedStateValue). StandByName c.into_parts-journal.result.1.site at.issued) c.state.ensures
    (c.is_by_name-by_name.ensures known)

pub of-requires-clause-hashed : goal.of-requires-clause-hashed
of-requires-clause-hashed g c = subst (λ (p : PressValue). IsHashed p.at.set p.at.issued) (sym c.resumed-press.ensures) c.in-Ok.ensures.state.hashed

pub returns-in-Ok-clause-goes_on : goal.returns-in-Ok-clause-goes_on
returns-in-Ok-clause-goes_on g c =
    let journal = c.into_parts-journal.result.0 in
    whole journal c.into_parts-journal.result.1 c.into_parts-journal.result.2 c.into_parts-journal.result.3 c.args.loaded c.into_parts-journal.ensures.parts c.args.firsts.items c.args.ring c.in-Ok.at c.in-Ok.ensures.state
    c.requires.firsts c.into_parts-journal.ensures.kept c.of.result (stored-so journal c.resumed-press.result _ c.of.result c.of.ensures c.resumed-press.ensures)
    (record { last = c.steps_come_one_by_one.ensures.last; home = c.certificates_name_their_folders.ensures; append = c.editions_follow_one_another.ensures })

pub returns-in-Ok-clause-agreed : goal.returns-in-Ok-clause-agreed
returns-in-Ok-clause-agreed g c =
    let journal = c.into_parts-journal.result.0 in
    agreed journal c.into_parts-journal.result.1 c.into_parts-journal.result.2 c.into_parts-journal.result.3 c.args.loaded c.into_parts-journal.ensures.parts c.args.firsts.items c.args.ring c.in-Ok.at c.in-Ok.ensures.state
    c.requires.firsts c.into_parts-journal.ensures.kept c.of.result (stored-so journal c.resumed-press.result _ c.of.result c.of.ensures c.resumed-press.ensures)
    c.args.audited c.requires.audited c.in-Ok.ensures.agreed
