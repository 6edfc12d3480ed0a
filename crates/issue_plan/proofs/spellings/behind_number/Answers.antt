use Rattle.std.proofs.Common.{ℕ, List, ◌++◌, ap, ◌∙◌}
use Rattle.hex.specs.Hex.{encode_lower}
use Rattle.issue_plan.proofs.spellings.behind_number.Goals as goal

pub returns : goal.returns
returns c =
    c.in_ok-rest.ensures
    ∙ ap (λ (text : List ℕ). encode_lower text ++ c.in_ok-rest.rest.now) (c.as_bytes.ensures.value ∙ c.format.ensures.text)
