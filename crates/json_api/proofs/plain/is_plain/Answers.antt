use Rattle.std.proofs.Common.{false, arith}
use Rattle.json_api.proofs.PlainBytes.{plain_told}
use Rattle.json_api.proofs.plain.is_plain.Goals as goal

pub returns : goal.returns
returns c = plain_told c.args.byte false (omega (arith, c.ranges.byte.fits))
