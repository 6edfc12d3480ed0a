use Rattle.res_ext.specs.laws.SetLaws.{set_told}
use Rattle.res_ext.proofs.blocks.set_of.Goals as goal

pub returns-clause-found : goal.returns-clause-found
returns-clause-found c = set_told c.args.family c.args.ranges.items c.from_sorted.result c.from_sorted.ensures.canonical c.from_sorted.ensures.value
