use Rattle.moments.specs.laws.TimeLaws.{read-as}
use Rattle.moments.proofs.reading.read.Goals as goal

pub returns-clause-read : goal.returns-clause-read
returns-clause-read c = read-as c.args.general c.args.bytes.now c.moment.result c.moment.ensures.found c.moment.ensures.years c.moment.ensures.only
