use Rattle.std.proofs.Common.{arith}
use Rattle.rrdp_text.proofs.Fronts.{literal_done}
use Rattle.rrdp_text.proofs.parts.literal.Goals as goal

pub returns : goal.returns
returns c = literal_done c.args.expected.now c.args.bytes.now c.loop-i.i (omega arith) (omega arith) c.loop-i.invariant.more
