use Rattle.notice_board.proofs.Editions.{either_prefix}
use Rattle.notice_board.proofs.laws.all_see_one_history.Goals as goal

pub returns : goal.returns
returns c = either_prefix
