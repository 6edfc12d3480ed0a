use Rattle.std.proofs.Common.{◌≡◌, refl, sym, ap, ◌∙◌}
use Rattle.notice_board.proofs.Owning.{begins}
use Rattle.notice_board.proofs.lists.ListOwner.begin.Goals as goal

pub compare_exchange-found-requires : goal.compare_exchange-found-requires
compare_exchange-found-requires g c =
    let opened = c.open_row-seen.ensures in
    let right = c.take-right.ensures in
    let head = c.tracked-head.ensures in
    let offer = c.plain-offer.ensures in
    let pen = c.no_pen-pen.ensures in
    let book : c.open_row-seen.result.0.book ≡ c.tracked-head.result.book = sym opened.2 ∙ (sym right.pen.0 ∙ sym (ap (λ w. w.book) head.0)) in (
      ap (λ w. w.tracked) head.0,
      book,
      pen.0 ∙ book,
      offer.0,
      rw (ap (λ w. w.key) head.0 ∙ (ap (λ p. p.key) right.pen.1 ∙ opened.3), pen.1, offer.1, offer.3, opened.1) (begins _ refl),
    )
