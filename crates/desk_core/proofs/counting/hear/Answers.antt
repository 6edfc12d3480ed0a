use Rattle.desk_core.proofs.Words.{heard}
use Rattle.desk_core.proofs.counting.hear.Goals as goal

pub returns-clause-told : goal.returns-clause-told
returns-clause-told c = heard c.args.follower.now c.in-Ok.note c.join.new.self c.args.owner.now c.in-Ok.ensures.given c.requires.begins c.join.ensures.both
