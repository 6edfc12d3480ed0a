use Rattle.std.proofs.Common.{arith}
use Rattle.json_api.proofs.Escapes.{escape-hex}
use Rattle.json_api.proofs.refusals.digits_are_plain.Goals as goal

pub returns : goal.returns
returns c = escape-hex c.args.bytes.now (λ i. omega (arith, c.type_inv.bytes i))
