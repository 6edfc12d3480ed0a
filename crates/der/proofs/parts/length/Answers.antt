use Rattle.std.proofs.Common.{◌<◌, ◌^◌, length, arith}
use Rattle.std.proofs.Math.Nat.{pow-le-pow_right}
use Rattle.std.proofs.lemmas.Int.Digits.{number_lt}
use Rattle.der.specs.Reading.{number}
use Rattle.der.specs.Grammar.{AreBytes}
use Rattle.der.specs.laws.NumberLaws.{AreBytes-take, AreBytes-drop, below, some_number}
use Rattle.der.proofs.parts.length.Goals as goal

-- Four bytes fit.
pub unwrap-n-requires : goal.unwrap-n-requires
unwrap-n-requires c =
    let digits = c.split_at.result.0.now in
    let fits : AreBytes digits = rw c.split_at.ensures.front (AreBytes-take _ _ (AreBytes-take _ _ (AreBytes-drop 1 c.args.bytes.now (λ i. omega (arith, c.type_inv.bytes i))))) in
    let bound = number_lt 256 digits (below digits fits) in
    let limit = pow-le-pow_right {n = 256} (omega arith) {i = length digits} {j = 4} (omega arith) in
    some_number c.number.result (number digits < 2 ^ 64) (number digits) c.number.ensures (omega (arith, bound, limit))
