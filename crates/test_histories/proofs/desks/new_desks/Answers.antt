use Rattle.std.proofs.Common.{◌≡◌, ◌+◌, ◌∷◌, [], ℕ, length, sym, subst, ◌∙◌, ap, arith, rules}
use Rattle.std.proofs.lemmas.List.{length-append}
use Rattle.test_histories.specs.Standing.{AreNew}
use Rattle.test_histories.proofs.Places.{new_more}
use Rattle.test_histories.proofs.Reopened.{new_desk}
use Rattle.test_histories.proofs.desks.new_desks.Goals as goal

pub loop-number-preserved : goal.loop-number-preserved
loop-number-preserved c =
    let so_far = c.loop-number.invariant in
    let is = c.in_ok-desk.ensures in
    let desk = c.in_ok-desk.desk in
    let desks = c.loop-number.desks.items in
    let none : c.new-bytes.result.items ≡ [] = search rules in
    let stands = new_desk c.loop-number.number desk c.new-bytes.result.items none is.found is.commands.0 is.commands.1 is.number is.settled in (
      subst (AreNew 0) (sym c.in_ok-push.ensures.items) (new_more 0 desks c.loop-number.number desk so_far.0 stands (omega (arith, so_far.1))),
      ap length c.in_ok-push.ensures.items ∙ length-append desks (desk ∷ []) ∙ ap (λ (n : ℕ). n + 1) so_far.1,
    )
