use Rattle.notice_board.proofs.Owning.{known_whole}
use Rattle.notice_board.proofs.laws.only_the_owner_adds.Goals as goal

pub returns : goal.returns
returns c cells known log key kept pre ends away = known_whole cells known log key kept.home pre ends away
