use Rattle.manager.proofs.Opened.{opened_locked}
use Rattle.manager.proofs.locked_press.LockedPress.over.Goals as goal

pub invariant_of-result : goal.invariant_of-result
invariant_of-result g c = (opened_locked g.O.Outlet g.N.Names.named _ c.requires.opened, c.requires.faults)
