use Rattle.std.proofs.Common.{arith}
use Rattle.std.proofs.lemmas.Str.Parse.{digit_at}
use Rattle.ip_text.proofs.Decimals.{read_more}
use Rattle.ip_text.proofs.number.read_saturating.Goals as goal

pub returns-then-not-is_ascii_digit : goal.returns-then-not-is_ascii_digit
returns-then-not-is_ascii_digit c = λ m is.
    omega (arith, digit_at c.args.text.now c.loop-byte.byte-index is.written.digits.1 c.loop-byte-test.true, c.if-not-is_ascii_digit.ensures.cases)

pub loop-byte-preserved : goal.loop-byte-preserved
loop-byte-preserved c =
    rw (c.saturating_add-value.ensures, c.saturating_mul.ensures, c.from.ensures)
    (read_more c.args.text.now c.loop-byte.byte-index c.loop-byte.value c.loop-byte-test.true c.if-not-is_ascii_digit.ensures.cases c.loop-byte.invariant)
