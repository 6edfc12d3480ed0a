use Rattle.press_records.specs.laws.RecordableLaws.{recordable-good}
use Rattle.press_records.proofs.laws.recordable_editions_have_a_record.Goals as goal

pub returns : goal.returns
returns c = recordable-good
