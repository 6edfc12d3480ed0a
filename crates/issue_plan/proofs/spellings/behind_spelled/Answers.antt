use Rattle.std.proofs.Common.{◌≡◌, ℕ, List, ◌++◌, subst, ◌∙◌}
use Rattle.std.specs.Prelude.{IfSome}
use Rattle.hex.specs.Hex.{encode_lower}
use Rattle.issue_plan.proofs.spellings.behind_spelled.Goals as goal

pub returns : goal.returns
returns c =
    subst (λ (text : List ℕ). IfSome c.behind_text.result (λ rest. c.args.digits.now ≡ encode_lower text ++ rest.now))
    (c.as_bytes.ensures.value ∙ c.in_ok-text.ensures) c.behind_text.ensures
