use Rattle.krill_top.proofs.Telling.{made_exported, made_stopped}
use Rattle.krill_top.proofs.instance.Instance.export_made.Goals as goal

pub returns-in-Ok : goal.returns-in-Ok
returns-in-Ok g c = made_exported g.D.Disk g.O.Outlet c.args.published c.args.self.now c.export.new.self c.in-Ok.ensures.moves

pub returns-in-Err : goal.returns-in-Err
returns-in-Err g c = made_stopped g.D.Disk g.O.Outlet c.args.published c.in-Err.fault c.args.self.now c.export.new.self c.requires.serial c.in-Err.ensures.moves
