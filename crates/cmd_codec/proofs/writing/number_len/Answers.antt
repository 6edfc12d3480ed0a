use Rattle.std.proofs.Common.{arith}
use Rattle.cmd_codec.proofs.Sizes.{size_number}
use Rattle.cmd_codec.proofs.writing.number_len.Goals as goal

pub returns-clause-size : goal.returns-clause-size
returns-clause-size c = omega (arith, size_number c.args.n)
