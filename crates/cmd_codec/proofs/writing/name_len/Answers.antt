use Rattle.std.proofs.Common.{List, ℕ, length, ap, arith}
use Rattle.cmd_codec.proofs.Sizes.{size_name}
use Rattle.cmd_codec.proofs.writing.name_len.Goals as goal

pub returns-clause-size : goal.returns-clause-size
returns-clause-size c = omega (arith, size_name c.args.name.now, ap (λ (t : List ℕ). length t) c.as_bytes.ensures.bytes)
