use Rattle.std.proofs.Common.{arith}
use Rattle.cmd_codec.proofs.Sizes.{size_origins}
use Rattle.cmd_codec.proofs.writing.origins_len.Goals as goal

pub returns-clause-size : goal.returns-clause-size
returns-clause-size c = omega (arith, size_origins c.args.list.now)
