use Rattle.json_api.proofs.Escapes.{escape-two}
use Rattle.json_api.proofs.refusals.numbers_into.Goals as goal

pub returns-clause-plain : goal.returns-clause-plain
returns-clause-plain c = escape-two c.args.first c.args.second c.ranges.first.fits c.ranges.second.fits
