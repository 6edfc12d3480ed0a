use Rattle.std.proofs.Common.{List, ap, subst}
use mathlib.Core.List.{IsPrefix}
use Rattle.notice_board.specs.declared.lists.Entry.{Entry}
use Rattle.notice_board.proofs.Editions.{before_or_later}
use Rattle.notice_board.proofs.notices.Notice.is_before.Goals as goal

pub returns : goal.returns
returns c =
    let both : List Entry = c.learn.new.self.log in
    let this : IsPrefix c.self.inside.shown.log both = subst (λ (l : List Entry). IsPrefix l both) (ap (λ s. s.log) c.again-both.ensures) c.learn.ensures.2 in
    rw (c.deref.ensures, c.deref-2.ensures, ← c.self.view_is, ← c.other.view_is)
    (before_or_later c.self.inside.shown.log c.other.inside.shown.log both _ _ this c.learn.ensures.3 c.self.invariant.0 c.other.invariant.0 c.self.invariant.1 c.other.invariant.1)
