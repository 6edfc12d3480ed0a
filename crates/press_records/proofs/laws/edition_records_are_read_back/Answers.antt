use Rattle.record_forms.specs.laws.FormLaws.{whole-again, whole-taken}
use Rattle.press_records.specs.Edition.{editions}
use Rattle.press_records.specs.laws.EditionLaws.{editions-law}
use Rattle.press_records.proofs.laws.edition_records_are_read_back.Goals as goal

pub returns-clause-again : goal.returns-clause-again
returns-clause-again c = λ before edition bytes is. whole-again (editions before) (editions-law before) edition bytes is

pub returns-clause-taken : goal.returns-clause-taken
returns-clause-taken c = λ before edition bytes are read. whole-taken (editions before) (editions-law before) edition bytes are read
