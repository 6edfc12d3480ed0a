use Rattle.std.proofs.Common.{ap₂, ◌∙◌}
use Rattle.std.specs.Prelude.{Bool, ◌||◌}
use Rattle.editions.proofs.StateLemmas.Dues.{steps_are}
use Rattle.editions.proofs.calling.steps.Goals as goal

pub returns : goal.returns
returns c = λ rows nexts are.
    c.either-2.ensures
    ∙ (ap₂ (λ (a b : Bool). a || b) (c.either.ensures ∙ ap₂ (λ (a b : Bool). a || b) c.has_some.ensures c.has_some-2.ensures) c.has_some-3.ensures
    ∙ steps_are rows nexts c.args.work.now are)
