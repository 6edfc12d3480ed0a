use Rattle.std.proofs.Common.{arith}
use Rattle.std.proofs.Math.Nat.{pow-le-pow_right}
use Rattle.res_ext.specs.laws.FormatLaws.{last_within}
use Rattle.res_ext.proofs.leading.last_of.Goals as goal

pub overflow_add-result : goal.overflow_add-result
overflow_add-result c =
    let within = last_within c.args.size c.args.prefix c.requires.good in
    let top = pow-le-pow_right {n = 2} (omega arith) {i = c.args.size} {j = 128} c.requires.short in
    omega (arith, within, c.ones.ensures, top)
