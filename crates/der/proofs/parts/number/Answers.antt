use Rattle.std.proofs.Common.{◌≡◌, ◌+◌, ◌*◌, ◌<◌, ◌∙◌, length, get_or, drop, sym, ap, arith}
use Rattle.std.specs.Int.Digits.{number_from_digits_after}
use Rattle.std.proofs.lemmas.List.{drop_more}
use Rattle.std.proofs.lemmas.Int.Digits.{number_after_ge}
use Rattle.der.specs.Reading.{number}
use Rattle.der.proofs.parts.number.Goals as goal

-- The number so far is too large, and only grows.
pub returns-then-n : goal.returns-then-n
returns-then-n c small =
    let n = c.loop-b.n in
    let i = c.loop-b.b-index in
    let bytes = c.args.bytes.now in
    let here : i < length bytes = omega arith in
    let b = get_or bytes i 0 in
    let rest = drop (i + 1) bytes in
    let goes_on : number_from_digits_after 256 (n * 256 + b) rest ≡ number bytes =
    sym (ap (number_from_digits_after 256 n) (drop_more bytes i 0 here)) ∙ c.loop-b.invariant in
    omega (arith, goes_on, number_after_ge 256 (n * 256 + b) rest (omega arith))
