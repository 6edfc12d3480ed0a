use Rattle.krill_top.specs.Publishing.{outcome_of, unmade_of}
use Rattle.krill_top.proofs.Telling.{refused_again, stopped_again}
use Rattle.krill_top.proofs.instance.Instance.refuse_nothing.Goals as goal

pub returns-in-Ok : goal.returns-in-Ok
returns-in-Ok g c =
    refused_again g.D.Disk g.O.Outlet (unmade_of c.args.fault) c.args.serial c.in-Ok.repeated (outcome_of c.refused_or_repeated.result) c.args.self.now c.repeat_export.new.self
    c.requires.nothing c.requires.serial c.refused_or_repeated.ensures c.in-Ok.ensures.moves

pub returns-in-Err : goal.returns-in-Err
returns-in-Err g c =
    stopped_again g.D.Disk g.O.Outlet (unmade_of c.args.fault) c.args.serial c.in-Err.export c.args.self.now c.repeat_export.new.self c.requires.nothing c.requires.serial c.in-Err.ensures.moves
