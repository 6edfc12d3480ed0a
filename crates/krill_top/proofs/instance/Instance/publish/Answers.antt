use Rattle.krill_top.specs.Publishing.{outcome_of}
use Rattle.krill_top.proofs.Telling.{made_moves, refused_moves}
use Rattle.krill_top.proofs.instance.Instance.publish.Goals as goal

pub returns-in-Ok : goal.returns-in-Ok
returns-in-Ok g c =
    made_moves g.D.Disk g.O.Outlet c.args.now c.in-Ok.published (outcome_of c.export_made.result) c.args.self.now c.make_edition.new.self c.export_made.new.self
    c.in-Ok.ensures.moves c.export_made.ensures

pub returns-in-Err : goal.returns-in-Err
returns-in-Err g c =
    refused_moves g.D.Disk g.O.Outlet c.args.now c.in-Err.fault (outcome_of c.refuse.result) c.args.self.now c.make_edition.new.self c.refuse.new.self
    c.in-Err.ensures.moves c.refuse.ensures
