use Rattle.std.proofs.Common.{◌≡◌, sym, ap, ◌∙◌}
use Rattle.notice_board.specs.declared.lists.Known.{Known}
use Rattle.notice_board.proofs.Owning.{finds, same_book}
use Rattle.notice_board.proofs.lists.ListOwner.tell.Goals as goal

pub compare_exchange-requires : goal.compare_exchange-requires
compare_exchange-requires c =
    let kept = c.self.invariant in
    let learn = c.learn.ensures in
    let offer = c.plain-offer.ensures in
    let head = sym (ap (λ w. w.book) kept.0) in
    let same : c.args.seen.now.book ≡ c.self.inside.seen.book = same_book _ _ (c.requires ∙ ap (λ (k : Known). k.list) (sym c.self.view_is)) in (
      ap (λ w. w.tracked) kept.0,
      learn.0 ∙ (same ∙ head),
      kept.1 ∙ head,
      offer.0,
      rw (ap (λ w. w.key) kept.0, offer.3) (finds c.learn.new.self.log c.self.inside.pen.nib c.self.inside.seen.log c.plain-offer.result.ask kept.2 kept.3 learn.3),
    )
