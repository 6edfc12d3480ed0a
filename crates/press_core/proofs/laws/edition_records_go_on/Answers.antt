use Rattle.press_core.proofs.JournalLaws.{go-on}
use Rattle.press_core.proofs.laws.edition_records_go_on.Goals as goal

pub returns : goal.returns
returns c = go-on (record { more = c.one_more_edition.ensures.records; alike = c.what_stands_alike_reads_alike.ensures.spelled })
