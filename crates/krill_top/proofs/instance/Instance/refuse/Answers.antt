use Rattle.std.proofs.Common.{sym, ◌∙◌}
use Rattle.krill_top.specs.Publishing.{unmade_of}
use Rattle.krill_top.proofs.Telling.{stays_refused}
use Rattle.krill_top.proofs.instance.Instance.refuse.Goals as goal

pub returns : goal.returns
returns g c = stays_refused g.D.Disk g.O.Outlet (unmade_of c.args.fault) c.serial-serial.result c.args.self.now (sym c.is_nothing.ensures ∙ c.if-is_nothing.false) c.serial-serial.ensures
