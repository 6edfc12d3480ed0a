use Rattle.std.proofs.Common.{◌≡◌, ℕ, [], List, subst, ◌∙◌, rules}
use Rattle.test_histories.specs.Opened.{IsPressOpened}
use Rattle.test_histories.proofs.PressOpening.{if_ok_so}
use Rattle.test_histories.proofs.press.new_press.Goals as goal

pub returns-clause-opened : goal.returns-clause-opened
returns-clause-opened c =
    let none : c.new-bytes.result.items ≡ [] = search rules in
    if_ok_so c.open_press.result _ _ c.open_press.ensures.opened (λ press so. (
      so.0,
      subst (λ (file : List ℕ). IsPressOpened c.args.desks.now file so.0 press) (c.disk_over.ensures ∙ none) so.1,
    ))
