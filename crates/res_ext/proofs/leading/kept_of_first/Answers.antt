use Rattle.std.proofs.Common.{arith}
use Rattle.res_ext.specs.laws.LeadingLaws.{zeros_kept}
use Rattle.res_ext.proofs.leading.kept_of_first.Goals as goal

pub returns : goal.returns
returns c = let kept = zeros_kept c.args.bits 128 c.args.n c.requires in grind (arith, kept)
