use Rattle.press_records.specs.laws.AlikeLaws.{read-alike, spelled-alike}
use Rattle.press_records.proofs.laws.what_stands_alike_reads_alike.Goals as goal

pub returns-clause-read : goal.returns-clause-read
returns-clause-read c = λ one other bytes alike. read-alike one other alike bytes

pub returns-clause-spelled : goal.returns-clause-spelled
returns-clause-spelled c = λ one other edition bytes alike is. spelled-alike one other alike edition bytes is
