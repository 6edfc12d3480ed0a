use Rattle.std.proofs.Common.{rules}
use Rattle.der.specs.Part.{place}
use Rattle.der.specs.laws.PlaceLaws.{part-place}
use Rattle.res_ext.specs.laws.FormatLaws.{leading-law}
use Rattle.res_ext.proofs.leading.leading.Goals as goal

pub returns-in-Some-clause-good : goal.returns-in-Some-clause-good
returns-in-Some-clause-good c =
    ((leading-law c.args.size c.requires).taken c.in-Some.prefix (place c.args.part) (place c.in_ok-string.rest) (part-place c.args.part) (search rules)).0
