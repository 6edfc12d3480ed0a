use Rattle.std.proofs.Common.{◌==◌}
use Rattle.res_sets.proofs.Blanks.{split_parts, split_none}
use Rattle.res_sets.proofs.bytes.split_at_byte.Goals as goal

pub returns-in-Some : goal.returns-in-Some
returns-in-Some c = split_parts (λ b. b == c.args.byte) c.args.text.now c.in-Some.place c.in-Some.ensures

pub returns-in-None : goal.returns-in-None
returns-in-None c = split_none (λ b. b == c.args.byte) c.args.text.now c.in-None.ensures
