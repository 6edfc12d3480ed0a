use Rattle.std.proofs.Common.{List, sym, ap, subst}
use mathlib.Core.List.{IsPrefix}
use Rattle.commit_word.specs.Seats.{FollowerSeat}
use Rattle.notice_board.specs.Seats.{BoardSeat}
use Rattle.notice_board.specs.declared.shown.ShownEdition.{ShownEdition}
use Rattle.manager.specs.Passes.{PassValue}
use Rattle.manager.specs.Ended.{AreEnded}
use Rattle.manager.specs.Locked.{LockedValue}
use Rattle.manager.specs.inner.Gathering.{SeeAlike}
use Rattle.manager.proofs.Ends.{ended_before, they_begin, ends_are}
use Rattle.manager.proofs.shared.Manager.close.Goals as goal

pub returns-clause-ended : goal.returns-clause-ended
returns-clause-ended g c =
    let seats = ap (λ (p : PassValue). p.seats) c.tell.ensures.rest in
    ended_before c.args.pass.seats c.learn_all.new.pass.seats c.close.new.into.items c.learn_all.ensures.more
    (subst (λ (s : List FollowerSeat). AreEnded s c.close.new.into.items) seats c.close.ensures.ended)

pub returns-clause-faults : goal.returns-clause-faults
returns-clause-faults g c = c.close.ensures.faults

pub returns-clause-limits : goal.returns-clause-limits
returns-clause-limits g c = c.close.ensures.limits

pub returns-clause-left : goal.returns-clause-left
returns-clause-left g c = c.close.ensures.left

pub returns-clause-ends : goal.returns-clause-ends
returns-clause-ends g c =
    let pass = c.learn_all.new.pass in
    let told = c.tell.new.press in
    let locked = c.repeat_export-repeated.new.self in
    let again = c.repeat_export-repeated.ensures in
    let kept = c.close-disk.ensures in
    let seats = ap (λ (p : PassValue). p.seats) c.tell.ensures.rest in
    let press = sym c.tell.ensures.same in
    let alike = subst (λ (l : LockedValue _ _). SeeAlike l.seats pass.seats) press c.learn_all.ensures.alike in
    let same = subst (λ (s : List FollowerSeat). SeeAlike s pass.seats) (sym again.seats) alike in
    let ended = subst (λ (s : List FollowerSeat). AreEnded s c.close.new.into.items) seats c.close.ensures.ended in
    let begins = subst (λ (p : PassValue). IsPrefix p.shown c.tell.new.self.shown) c.learn_all.ensures.pass c.tell.ensures.grows in
    let whole = subst (λ (s : List ShownEdition). IsPrefix c.args.pass.shown s) c.tell.ensures.whole begins in
    let shown = subst (λ (l : LockedValue _ _). IsPrefix c.args.pass.shown l.board.shown) press whole in
    let viewed = subst (λ (b : BoardSeat). IsPrefix c.args.pass.shown b.shown) (sym again.board) shown in
    ends_are g.D.Disk g.O.Outlet g.N.Names.named locked c.args.pass.shown c.close.new.into.items _ _ _ _ kept.closed viewed
    (they_begin locked.seats pass.seats c.close.new.into.items same ended) kept.disk kept.ring kept.outlet again.repeated again.since kept.faults
