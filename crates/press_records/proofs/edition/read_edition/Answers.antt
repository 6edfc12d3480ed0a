use Rattle.std.proofs.Common.{arith}
use Rattle.record_forms.specs.laws.OutcomeLaws.{found-from, only-from}
use Rattle.press_records.specs.Edition.{editions}
use Rattle.press_records.specs.Views.{standing_value, edition_value}
use Rattle.press_records.specs.laws.EditionLaws.{editions-law}
use Rattle.press_records.proofs.edition.read_edition.Goals as goal

pub returns-clause-found : goal.returns-clause-found
returns-clause-found c =
    let before = standing_value c.args.before.now in
    found-from edition_value (editions before) (editions-law before) c.args.bytes.now (λ i. omega (arith, c.type_inv.bytes i)) c.edition_of.result c.edition_of.ensures

pub returns-clause-only : goal.returns-clause-only
returns-clause-only c =
    let before = standing_value c.args.before.now in
    only-from edition_value (editions before) (editions-law before) c.args.bytes.now c.edition_of.result c.edition_of.ensures
