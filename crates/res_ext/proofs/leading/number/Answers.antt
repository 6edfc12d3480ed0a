use Rattle.std.proofs.Common.{◌∙◌, ◌+◌, ◌*◌, ◌<◌, ◌^◌, ℕ, List, length, sym, take, arith}
use Rattle.std.proofs.Math.Nat.{pow-le-pow_right}
use Rattle.std.proofs.lemmas.List.{length-take}
use Rattle.std.proofs.lemmas.Int.Digits.{number_lt, number_more}
use Rattle.der.specs.laws.NumberLaws.{AreBytes-take}
use Rattle.der.specs.Grammar.{AreBytes}
use Rattle.res_ext.specs.laws.ByteLaws.{number, below}
use Rattle.res_ext.proofs.leading.number.Goals as goal

-- fewer than 16 bytes have a number below 2 ^ 120
few_bytes : (bytes : List ℕ) (i : ℕ) → AreBytes bytes → i < 16 → number (take i bytes) < 2 ^ 120
few_bytes bytes i fits few =
    let bound = number_lt 256 (take i bytes) (below (take i bytes) (AreBytes-take i bytes fits)) in
    let limit = pow-le-pow_right {n = 256} (omega arith) {i = length (take i bytes)} {j = 15} (omega (arith, length-take i bytes, few)) in
    omega (arith, bound, limit)

pub overflow_mul-n : goal.overflow_mul-n
overflow_mul-n c =
    let few = few_bytes c.args.bytes.now c.loop-b.b-index (λ k. omega (arith, c.type_inv.bytes k)) (omega (arith, c.loop-b-test.true, c.requires)) in
    omega (arith, few, c.loop-b.invariant)

pub overflow_add-n : goal.overflow_add-n
overflow_add-n c =
    let few = few_bytes c.args.bytes.now c.loop-b.b-index (λ k. omega (arith, c.type_inv.bytes k)) (omega (arith, c.loop-b-test.true, c.requires)) in
    omega (arith, few, c.loop-b.invariant, c.from.ensures, c.type_inv.bytes c.loop-b.b-index)

pub loop-b-preserved : goal.loop-b-preserved
loop-b-preserved c =
    (λ i. c.loop-b.invariant i * 256 + c.from.ensures i) ∙ sym (number_more 256 c.args.bytes.now c.loop-b.b-index c.loop-b-test.true)
