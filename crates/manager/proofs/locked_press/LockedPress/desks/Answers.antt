use Rattle.std.proofs.Common.{◌∙◌, length, sym, ap}
use Rattle.manager.specs.Locked.{LockedValue}
use Rattle.manager.proofs.Gathering.{followers_long}
use Rattle.manager.proofs.Over.{over}
use Rattle.manager.proofs.locked_press.LockedPress.desks.Goals as goal

pub returns-clause-count : goal.returns-clause-count
returns-clause-count g c =
    let inside = c.self.inside in
    c.len.ensures ∙ followers_long g.O.Outlet g.N.Names.named inside.press inside.followers inside.board inside.outlet c.self.invariant.0

pub returns-clause-followers : goal.returns-clause-followers
returns-clause-followers g c =
    let inside = c.self.inside in
    ap (λ (l : LockedValue _ _). length l.seats) (sym c.self.view_is) ∙ followers_long g.O.Outlet g.N.Names.named inside.press inside.followers inside.board inside.outlet c.self.invariant.0

pub returns-clause-cut : goal.returns-clause-cut
returns-clause-cut g c = ap (λ (l : LockedValue _ _). length l.press.press.at.cut) (sym c.self.view_is) ∙ (over g.O.Outlet g.N.Names.named _ c.self.invariant.0).made.one_each
