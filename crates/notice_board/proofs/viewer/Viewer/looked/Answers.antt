use Rattle.std.proofs.Common.{refl}
use Rattle.notice_board.proofs.Kept.{looks}
use Rattle.notice_board.proofs.viewer.Viewer.looked.Goals as goal

pub enter_as-requires : goal.enter_as-requires
enter_as-requires c x = looks _ _ x x refl
