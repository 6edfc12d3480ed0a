use Rattle.std.proofs.Common.{◌++◌, ◌*◌, ◌^◌, ℕ, ap}
use Rattle.std.specs.Int.{bytes_high_first}
use Rattle.std.proofs.lemmas.Result.{IfOk-equal}
use Rattle.der.specs.Spelling.{bits_spelling}
use Rattle.res_ext.specs.Prefixes.{octets, spare, leading_spelling}
use Rattle.res_ext.specs.laws.LeadingLaws.{leading_of_last}
use Rattle.res_ext.proofs.leading.push_leading_of_last.Goals as goal

pub returns : goal.returns
unfolding leading_spelling
returns c =
    let split = leading_of_last c.args.bits c.args.length c.args.last c.ones.result c.requires.within c.requires.fits c.ones.ensures c.requires.set in
    let same = ap (λ (q : ℕ). c.args.out.now.items ++ bits_spelling (spare c.args.length) (bytes_high_first (octets c.args.length) (q * 2 ^ spare c.args.length))) split.1 in
    IfOk-equal c.push_leading.result _ _ _ c.push_leading.ensures same
