use Rattle.res_ext.specs.laws.PrefixLaws.{length_told}
use Rattle.res_ext.proofs.blocks.span_length.Goals as goal

pub returns : goal.returns
returns c = length_told c.args.size c.args.range c.prefix_length.result c.prefix_length.ensures
