use Rattle.std.proofs.Common.{subst}
use Rattle.manager.specs.Locked.{LockedValue}
use Rattle.manager.specs.Closing.{IsClosed}
use Rattle.manager.specs.Risen.{IsRisenPress}
use Rattle.manager.proofs.Kept.{lock}
use Rattle.manager.proofs.Holding.{closed}
use Rattle.manager.proofs.locked_press.LockedPress.close.Goals as goal

pub returns-clause-closed : goal.returns-clause-closed
returns-clause-closed g c =
    let inside = c.self.inside in
    subst (λ (l : LockedValue _ _). IsClosed g.D.Disk g.O.Outlet g.N.Names.named l) c.self.view_is
    (closed c.edition_records_go_on.ensures g.O.Outlet g.N.Names.named (lock inside.press inside.followers inside.board inside.outlet) c.self.invariant.0 g.D.Disk c.close-disk.ensures.safe)

pub returns-clause-faults : goal.returns-clause-faults
returns-clause-faults g c = subst (λ (l : LockedValue _ _). IsRisenPress g.D.Disk g.O.Outlet g.N.Names.named l.press.journal l.outlet) c.self.view_is c.self.invariant.1
