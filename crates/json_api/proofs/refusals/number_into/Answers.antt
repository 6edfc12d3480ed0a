use Rattle.json_api.proofs.Escapes.{escape-decimal}
use Rattle.json_api.proofs.refusals.number_into.Goals as goal

pub returns-clause-plain : goal.returns-clause-plain
returns-clause-plain c = escape-decimal c.args.n c.ranges.n.fits
