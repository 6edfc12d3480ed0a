use Rattle.std.proofs.Common.{◌≡◌, ◌∙◌, ◌++◌, List, ℕ, ap}
use Rattle.std.specs.Int.Digits.{digits_of}
use Rattle.std.proofs.lemmas.List.{append-nil}
use Rattle.std.proofs.lemmas.Result.{IfOk-equal}
use Rattle.der.specs.inner.Digits.{without_zeros}
use Rattle.der.specs.Spelling.{spelled, unsigned_content, unsigned_spelling, nonnegative}
use Rattle.der.specs.laws.NumberLaws.{digits-be_bytes}
use Rattle.der.proofs.writer.unsigned.Goals as goal

pub returns-clause-ok : goal.returns-clause-ok
unfolding unsigned_spelling unsigned_content
returns-clause-ok c =
    let bytes = c.copy_from_slice.new.self in
    let content : c.nonnegative.result.now ≡ nonnegative (digits_of 256 c.args.n) =
    c.nonnegative.ensures ∙ ap (λ (t : List ℕ). nonnegative (without_zeros t)) (append-nil bytes ∙ c.copy_from_slice.ensures.after ∙ c.to_be_bytes.ensures) ∙ ap nonnegative (digits-be_bytes c.args.n c.ranges.n.fits) in
    IfOk-equal c.element.result _ _ _ c.element.ensures.ok (ap (λ (t : List ℕ). c.args.out.now.items ++ spelled 2 t) content)
