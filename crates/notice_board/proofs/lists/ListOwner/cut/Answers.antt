use Rattle.std.proofs.Common.{◌≡◌, sym, ap, ◌∙◌}
use Rattle.notice_board.proofs.Owning.{cuts}
use Rattle.notice_board.proofs.lists.ListOwner.cut.Goals as goal

pub compare_exchange-requires : goal.compare_exchange-requires
compare_exchange-requires c =
    let kept = c.self.invariant in
    let again = c.again-seen.ensures in
    let offer = c.plain-offer.ensures in
    let pen = c.no_pen-pen.ensures in
    let book : c.again-seen.result.book ≡ c.self.inside.head.book = ap (λ s. s.book) again ∙ sym (ap (λ w. w.book) kept.0) in (
      ap (λ w. w.tracked) kept.0,
      book,
      pen.0 ∙ book,
      offer.0,
      rw (ap (λ w. w.key) kept.0, pen.1, offer.3, ap (λ s. s.log) again) (cuts c.self.inside.seen.log c.self.inside.pen.nib.key c.plain-offer.result.ask kept.3),
    )
