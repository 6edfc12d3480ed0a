use Rattle.std.proofs.Common.{◌∙◌, ap, ap₂}
use Rattle.std.specs.Prelude.{Option}
use Rattle.key_roll.specs.declared.rows.KeyRow.{KeyRow}
use Rattle.key_roll.specs.declared.rows.Role.TheVariants.{New, Current, Old}
use Rattle.issue_plan.specs.Keys.{row_of, stage_of, keys_at_end}
use Rattle.issue_plan.proofs.KeyLemmas.{keys_stepped}
use Rattle.issue_plan.proofs.keys.keys_after.Goals as goal

pub returns-in-Some-new : goal.returns-in-Some-new
returns-in-Some-new c =
    let rows = c.args.rows.now in
    let desk = c.args.asked.now.desk in
    let asked = c.args.asked.now in
    let current = c.in-Some.current.now in
    keys_stepped asked (row_of rows desk New) (row_of rows desk Current) (row_of rows desk Old) current c.stage_of-stage.result c.step-end.result _
    c.in-Some.ensures
    (c.stage_of-stage.ensures ∙ ap₂ (λ (n o : Option KeyRow). stage_of n current o) c.row_of-new.ensures c.row_of-old.ensures)
    c.step-end.ensures.table
    (c.staged.ensures asked ∙ ap (λ (n : Option KeyRow). keys_at_end asked n current c.step-end.result) c.in-Some-new.ensures)
