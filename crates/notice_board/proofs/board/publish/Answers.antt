use Rattle.std.proofs.Common.{◌≡◌, refl, List, drop, ap, ◌∙◌, sym}
use Rattle.notice_board.specs.declared.lists.Known.{Known}
use Rattle.notice_board.specs.inner.Known.{coming}
use Rattle.notice_board.proofs.Kept.{looks}
use Rattle.notice_board.proofs.board.publish.Goals as goal

pub publish_as-next-requires : goal.publish_as-next-requires
publish_as-next-requires g c next is =
    let first : Known = c.args.writer.desk.shown.value in
    let now : Known = c.loop.writer.desk.shown.value in
    let same : coming now (drop c.loop.writer.behind c.loop.writer.log.items) ≡ coming first (drop c.args.writer.behind c.args.writer.log.items) = rw (c.loop.invariant.2, c.loop.invariant.3) refl in
    looks _ _ now next (ap (λ (k : Known). k.list) (is ∙ same) ∙ (c.requires ∙ ap (λ (k : Known). k.list) (sym c.loop.invariant.2)))
