use Rattle.res_ext.specs.laws.SetLaws.{numbers_told}
use Rattle.res_ext.proofs.choices.has_numbers.Goals as goal

pub returns-in-Some : goal.returns-in-Some
returns-in-Some c = numbers_told c.in-Some.set c.args.choice.now c.is_empty.result c.in-Some.is c.is_empty.ensures.ranges
