use Rattle.std.proofs.Common.{arith}
use Rattle.record_forms.specs.laws.OutcomeLaws.{found-from, only-from}
use Rattle.press_records.specs.Edition.{editions}
use Rattle.press_records.specs.Views.{recovered_standing, edition_value}
use Rattle.press_records.specs.laws.EditionLaws.{editions-law}
use Rattle.press_records.proofs.recovered.Recovered.take_record.Goals as goal

pub returns-clause-found : goal.returns-clause-found
returns-clause-found c =
    let before = recovered_standing c.args.self.now in
    found-from edition_value (editions before) (editions-law before) c.args.bytes.now (λ i. omega (arith, c.type_inv.bytes i)) c.take_whole.result c.take_whole.ensures.told

pub returns-clause-only : goal.returns-clause-only
returns-clause-only c =
    let before = recovered_standing c.args.self.now in
    only-from edition_value (editions before) (editions-law before) c.args.bytes.now c.take_whole.result c.take_whole.ensures.told
