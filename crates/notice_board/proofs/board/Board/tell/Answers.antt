use Rattle.std.proofs.Common.{◌≡◌, List, sym, ap, ◌∙◌, subst}
use mathlib.Core.List.{IsPrefix}
use Rattle.notice_board.specs.declared.lists.Entry.{Entry}
use Rattle.notice_board.specs.declared.lists.Known.{Known}
use Rattle.notice_board.specs.declared.shown.ShownEdition.{ShownEdition}
use Rattle.notice_board.specs.Seats.{ViewerSeat}
use Rattle.notice_board.specs.inner.Known.{editions_of}
use Rattle.notice_board.proofs.Editions.{editions_grow}
use Rattle.notice_board.proofs.board.Board.tell.Goals as goal

pub returns-clause-seen : goal.returns-clause-seen
returns-clause-seen g c =
    let log : List Entry = c.seen-seen.result.log in
    let found : List Entry = c.tell.new.seen.log in
    let from : editions_of log ≡ c.args.viewer.now.seen = ap (λ (k : Known). editions_of k.log) c.seen-seen.ensures ∙ ap (λ (v : ViewerSeat). v.seen) c.last.ensures in
    let shown = ap (λ (k : Known). editions_of k.log) (c.again.ensures ∙ (c.published.ensures ∙ c.self.invariant.0)) in
    let to : editions_of found ≡ c.know.new.self.seen = ap editions_of c.tell.ensures.whole ∙ sym (ap (λ (v : ViewerSeat). v.seen) c.know.ensures ∙ shown) in
    subst (λ (l : List ShownEdition). IsPrefix l c.know.new.self.seen) from
    (subst (λ (l : List ShownEdition). IsPrefix (editions_of log) l) to (editions_grow log found c.tell.ensures.grows))
