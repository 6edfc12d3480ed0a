use Rattle.press_records.specs.laws.RecordLaws.{records-again, records-taken, records-bad}
use Rattle.press_records.proofs.laws.records_are_read_back.Goals as goal

pub returns-clause-again : goal.returns-clause-again
returns-clause-again c = λ index records before editions are. records-again editions records index before are

pub returns-clause-taken : goal.returns-clause-taken
returns-clause-taken c = λ index records before editions bytes told. records-taken records index before editions bytes told

pub returns-clause-bad : goal.returns-clause-bad
returns-clause-bad c = λ index records before bad bytes told. records-bad records index before bad bytes told
