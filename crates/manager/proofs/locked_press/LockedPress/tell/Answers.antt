use Rattle.std.proofs.Common.{◌≤◌, ◌∙◌, ℕ, sym, ap, subst}
use Rattle.notice_board.specs.Seats.{BoardSeat, ViewerSeat}
use Rattle.notice_board.specs.Lists.{last_serial}
use Rattle.manager.specs.Locked.{LockedValue, IsLocked}
use Rattle.manager.proofs.Kept.{lock}
use Rattle.manager.proofs.Over.{over}
use Rattle.manager.proofs.Answered.{shown_serial}
use Rattle.manager.proofs.Rising.{serial_grows}
use Rattle.manager.proofs.locked_press.LockedPress.tell.Goals as goal

pub tell-requires : goal.tell-requires
tell-requires g c = c.requires ∙ sym (over g.O.Outlet g.N.Names.named _ c.self.invariant.0).list

pub invariant_of-self : goal.invariant_of-self
invariant_of-self g c =
    let inside = c.self.inside in
    (subst (λ (b : BoardSeat). IsLocked g.O.Outlet g.N.Names.named (lock inside.press inside.followers b inside.outlet)) (sym c.tell.ensures.same) c.self.invariant.0, c.self.invariant.1)

pub returns-clause-kept : goal.returns-clause-kept
returns-clause-kept g c = (invariant_of-self g c).0

pub returns-clause-same : goal.returns-clause-same
returns-clause-same g c =
    let inside = c.self.inside in
    ap (λ (b : BoardSeat). lock inside.press inside.followers b inside.outlet) c.tell.ensures.same ∙ c.self.view_is

pub returns-clause-list : goal.returns-clause-list
returns-clause-list g c = ap (λ (v : ViewerSeat). v.list) c.tell.ensures.whole ∙ ((over g.O.Outlet g.N.Names.named _ c.self.invariant.0).list ∙ sym c.requires)

pub returns-clause-whole : goal.returns-clause-whole
returns-clause-whole g c = ap (λ (v : ViewerSeat). v.seen) c.tell.ensures.whole ∙ ap (λ (l : LockedValue _ _). l.board.shown) c.self.view_is

pub returns-clause-not_past : goal.returns-clause-not_past
returns-clause-not_past g c =
    let inside = c.self.inside in
    let old = c.args.viewer.now.seen in
    let shown = ap (λ (v : ViewerSeat). last_serial v.seen) c.tell.ensures.whole in
    let stands = shown_serial g.O.Outlet g.N.Names.named inside.press inside.followers inside.board inside.outlet c.self.invariant.0 in
    let here = ap (λ (l : LockedValue _ _). l.press.press.at.serial) c.self.view_is in
    subst (λ (n : ℕ). last_serial old ≤ n) (shown ∙ (stands ∙ here)) (serial_grows old c.tell.new.viewer.seen c.tell.ensures.seen c.last_seen.ensures.rises)
