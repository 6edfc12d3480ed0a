use Rattle.std.proofs.Common.{ap, sym, ◌∙◌}
use Rattle.std.specs.Prelude.{slice_get, option_map, option_and_then}
use Rattle.issue_plan.specs.Serves.{serves_roa}
use Rattle.issue_plan.specs.inner.Positions.{serving_at}
use Rattle.issue_plan.proofs.OwedLemmas.{kept-owed}
use Rattle.issue_plan.proofs.roas.kept_owed.Goals as goal

pub returns-in-Some-name_at : goal.returns-in-Some-name_at
returns-in-Some-name_at c =
    let s = c.args.standing.now in
    let roa = c.args.roa.now in
    c.serving_at.ensures
    ∙ (ap (option_and_then (λ p. serving_at (serves_roa s.moment roa) p (slice_get s.issued.now p))) c.requires.found
    ∙ sym (kept-owed s c.args.settled.now roa c.args.owed.now c.in-Some.key.now c.in-Some-name_at.field-0.now
    (sym c.requires.key ∙ ap (option_map (λ key. key.now)) c.in-Some.is) c.requires.origin c.if-key-owed.false
    (sym c.in-Some-name_at.ensures)))
