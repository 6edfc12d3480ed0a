use Rattle.press_core.proofs.OneStore.{told-records, one-store}
use Rattle.press_core.proofs.journal_laws.records_tell_one_store.Goals as goal

pub returns-clause-told : goal.returns-clause-told
returns-clause-told c = λ store editions records are. told-records store editions records are

pub returns-clause-one : goal.returns-clause-one
returns-clause-one c = λ store other editions more records are also. one-store store other editions more records are also
