use Rattle.press_records.proofs.Writing.{record_spelled}
use Rattle.press_records.proofs.edition.EditionRecord.new.Goals as goal

pub returns-clause-spelled : goal.returns-clause-spelled
returns-clause-spelled c = λ standing over.
    let given = c.args.given in
    record_spelled standing c.args.before.now given.rows.now c.in_ok-rows.rows.items given.serial given.moment given.cut.now given.changes.now over
    c.in_ok-rows.ensures
