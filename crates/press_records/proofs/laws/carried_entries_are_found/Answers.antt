use Rattle.press_records.specs.laws.EntryLaws.{added-found}
use Rattle.press_records.specs.laws.PartLaws.{merged-part}
use Rattle.press_records.proofs.laws.carried_entries_are_found.Goals as goal

pub returns-clause-merged : goal.returns-clause-merged
returns-clause-merged c = merged-part

pub returns-clause-added : goal.returns-clause-added
returns-clause-added c = added-found
