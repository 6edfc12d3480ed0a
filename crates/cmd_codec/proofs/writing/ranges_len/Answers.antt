use Rattle.std.proofs.Common.{arith, ap, length, List}
use Rattle.res_sets.specs.declared.numbers.Range.{Range}
use Rattle.cmd_codec.proofs.Sizes.{size_ranges}
use Rattle.cmd_codec.proofs.writing.ranges_len.Goals as goal

pub returns-clause-size : goal.returns-clause-size
returns-clause-size c = omega (arith, size_ranges c.args.set.now, ap (λ (rs : List Range). length rs) c.as_slice.ensures.ranges)
