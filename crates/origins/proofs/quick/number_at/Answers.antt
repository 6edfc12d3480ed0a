use Rattle.std.proofs.Common.{◌≤◌, get_or, refl, arith}
use Rattle.origins.proofs.Begun.{read_more}
use Rattle.origins.proofs.quick.number_at.Goals as goal

pub loop-byte-preserved : goal.loop-byte-preserved
loop-byte-preserved c =
    let text = c.args.text.now in
    let byte = get_or text c.loop-byte.byte-index 0 in
    let small = c.type_inv.text c.loop-byte.byte-index in
    let digit = c.if-digit-gt9.false in
    let low : 48 ≤ byte = omega (arith, small, digit) in
    let high : byte ≤ 57 = omega (arith, small, digit) in
    read_more text _ _ c.loop-byte.value byte c.from.result c.in_ok-value.value c.loop-byte-test.true refl (low, high)
    (omega (arith, c.from.ensures, low, high))
    (omega (arith, c.in_ok-value.ensures.1, c.in_ok-checked_mul.ensures.1))
    (omega (arith, c.in_ok-value.ensures))
    c.loop-byte.invariant
