use Rattle.manager.proofs.Ready.{can_start, found_first}
use Rattle.manager.proofs.ready_laws.ready_stores_can_start.Goals as goal

pub returns-clause-start : goal.returns-clause-start
returns-clause-start g c opened stored board outlet is = can_start c.commands_are_determined.ensures g.D.Disk g.O.Outlet opened stored board outlet is

pub returns-clause-found : goal.returns-clause-found
returns-clause-found g c opened first last board outlet is = found_first c.commands_are_determined.ensures g.D.Disk g.O.Outlet opened first last board outlet is
