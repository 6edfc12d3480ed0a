use Rattle.std.proofs.Common.{arith}
use Rattle.cmd_codec.proofs.Sizes.{size_granted}
use Rattle.cmd_codec.proofs.writing.resources_len.Goals as goal

pub returns-clause-size : goal.returns-clause-size
returns-clause-size c = omega (arith, size_granted c.args.grant.now)
