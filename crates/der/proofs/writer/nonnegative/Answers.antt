use Rattle.std.proofs.Common.{◌≡◌, ◌∙◌, ◌-◌, ◌∷◌, ℕ, length, drop, take, ap, sym, refl, arith, true}
use Rattle.std.proofs.lemmas.List.{take_all, length-drop}
use Rattle.der.specs.inner.Digits.{without_zeros}
use Rattle.der.specs.Spelling.{needs_zero, nonnegative}
use Rattle.der.specs.laws.NumberLaws.{length-without_zeros-lt, nonnegative-drop}
use Rattle.der.proofs.writer.nonnegative.Goals as goal

pub overflow_sub-result : goal.overflow_sub-result
overflow_sub-result c = omega (arith, length-without_zeros-lt c.args.bytes.now c.requires, ap length c.without_zeros-digits.ensures)

pub overflow_sub-result-then-needs_zero : goal.overflow_sub-result-then-needs_zero
overflow_sub-result-then-needs_zero c = omega (arith, length-without_zeros-lt c.args.bytes.now c.requires, ap length c.without_zeros-digits.ensures)

pub returns-then-needs_zero : goal.returns-then-needs_zero
returns-then-needs_zero c =
    let bytes = c.args.bytes.now in
    let digits = c.without_zeros-digits.result.now in
    let from = length bytes - length digits - 1 in
    let same : length digits ≡ length (without_zeros bytes) = ap length c.without_zeros-digits.ensures in
    let all : take (length bytes - from) (drop from bytes) ≡ drop from bytes =
    take_all (length bytes - from) (drop from bytes) (omega (arith, length-drop from bytes)) in
    let needs : needs_zero (without_zeros bytes) ≡ true = ap needs_zero (sym c.without_zeros-digits.ensures) ∙ sym c.needs_zero.ensures ∙ c.if-needs_zero.true in
    let spelled : 0 ∷ without_zeros bytes ≡ nonnegative (without_zeros bytes) = rw needs refl in
    all ∙ ap (λ (n : ℕ). drop (length bytes - n - 1) bytes) same ∙ nonnegative-drop bytes c.requires ∙ spelled
