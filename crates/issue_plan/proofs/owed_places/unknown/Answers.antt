use Rattle.std.proofs.Common.{rules}
use Rattle.issue_plan.proofs.StayLemmas.{none-staying}
use Rattle.issue_plan.proofs.owed_places.unknown.Goals as goal

pub returns : goal.returns
returns c = λ s keys settled.
    none-staying s keys settled c.args.owed.now c.in_ok-vec.field-0.items
    (c.in_ok-vec.ensures.items_if_clones_equal (λ y h. search rules))
