use Rattle.press_records.specs.laws.RecordLaws.{one-more, after-last}
use Rattle.press_records.proofs.laws.one_more_edition.Goals as goal

pub returns-clause-records : goal.returns-clause-records
returns-clause-records c = one-more

pub returns-clause-left : goal.returns-clause-left
returns-clause-left c = after-last
