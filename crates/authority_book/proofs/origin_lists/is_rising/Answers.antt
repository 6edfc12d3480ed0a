use Rattle.std.proofs.Common.{◌≡◌, ◌+◌, ◌-◌, true, sym, ◌∙◌, ap, ap₂, arith, get_or, inl, inr, rules}
use Rattle.std.proofs.lemmas.Bool.{cases_eq}
use Rattle.std.proofs.lemmas.List.{get_or_default}
use Rattle.std.specs.Ordering.{is_lt}
use Rattle.origins.specs.declared.Origin.{Origin}
use Rattle.authority_book.specs.Origins.{origin_cmp}
use Rattle.authority_book.proofs.Indexed.{ascending_from_steps}
use Rattle.authority_book.proofs.origin_lists.is_rising.Goals as goal

pub loop-place-preserved : goal.loop-place-preserved
unfolding origin_cmp
loop-place-preserved c = λ k d within.
    let xs = c.args.items.now in
    let place = c.loop-place.place in
    let a = c.index-items-place.result in
    let b = c.index-items-place-in-loop-place.result in
    let below : is_lt (origin_cmp a b) ≡ true = search rules in
    elim (cases_eq (k + 1) place) [
      | inl here ↦
          let before : k ≡ place - 1 = omega arith in
          let first : get_or xs k d ≡ a = get_or_default xs k d a (omega arith) ∙ (ap (λ n. get_or xs n a) before ∙ sym c.index-items-place.is) in
          let second : get_or xs (k + 1) d ≡ b = get_or_default xs (k + 1) d b (omega arith) ∙ (ap (λ n. get_or xs n b) here ∙ sym c.index-items-place-in-loop-place.is) in
          ap₂ (λ (x y : Origin). is_lt (origin_cmp x y)) first second ∙ below
      | inr before ↦ c.loop-place.invariant k d (omega arith)
    ]

pub returns : goal.returns
returns c = λ yes. ascending_from_steps c.args.items.now (λ k d within. c.loop-place.invariant k d (omega arith))
