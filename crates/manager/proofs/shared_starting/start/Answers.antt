use Rattle.std.proofs.Common.{◌∙◌, List, ap, sym, subst}
use Rattle.commit_word.specs.Seats.{FollowerSeat}
use Rattle.notice_board.specs.Seats.{ViewerSeat}
use Rattle.manager.specs.Opening.{IsOpened}
use Rattle.manager.specs.Passes.{PassValue}
use Rattle.manager.proofs.Kept.{lock}
use Rattle.manager.proofs.shared_starting.start.Goals as goal

pub start-requires-clause-viewers : goal.start-requires-clause-viewers
start-requires-clause-viewers g c = (
  c.requires.viewers.0,
  λ k d within. ap (λ (v : ViewerSeat). v.list) (c.requires.viewers.1 k d within) ∙ c.requires.press.list,
)

pub started_with-requires-clause-opened : goal.started_with-requires-clause-opened
started_with-requires-clause-opened g c =
    subst (λ (s : List FollowerSeat). IsOpened g.O.Outlet g.N.Names.named (lock c.args.opened.press s c.args.opened.board c.args.opened.outlet)) (sym c.in-Ok.ensures.followers) c.requires.press

pub returns-in-Ok-clause-shown : goal.returns-in-Ok-clause-shown
returns-in-Ok-clause-shown g c =
    ap (λ (p : PassValue). p.shown) c.started_with.ensures
    ∙ c.in-Ok.ensures.shown c.args.opened.board.shown (λ k d within. ap (λ (v : ViewerSeat). v.seen) (c.requires.viewers.1 k d within))
