use Rattle.std.proofs.Common.{arith}
use Rattle.res_ext.specs.laws.LeadingLaws.{ones_kept}
use Rattle.res_ext.proofs.leading.kept_of_last.Goals as goal

pub returns : goal.returns
returns c = let kept = ones_kept c.args.bits 128 c.args.n c.requires c.ranges.n.fits in grind (arith, kept)
