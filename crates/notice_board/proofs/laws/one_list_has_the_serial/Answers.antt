use Rattle.notice_board.proofs.Editions.{same_serial}
use Rattle.notice_board.proofs.laws.one_list_has_the_serial.Goals as goal

pub returns : goal.returns
returns c = same_serial
