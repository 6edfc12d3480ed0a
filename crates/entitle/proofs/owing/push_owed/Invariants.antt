use Rattle.std.proofs.Common.{◌≡◌, ◌++◌, take, List}
use Rattle.origins.specs.declared.Origin.{Origin}
use Rattle.res_sets.specs.Triples.{has}
use Rattle.entitle.specs.Owed.{HasEach, AreThose, at_desk}
use Rattle.entitle.proofs.owing.push_owed.Given as goal

abbrev pub invariant-loop-origin : goal.invariant-loop-origin
invariant-loop-origin l = (own : List Origin) × AreThose (λ origin. HasEach (has l.set) origin.prefix) (take l.origin-index l.origins) own
    × (l.owed.items ≡ l.fn.owed.items ++ at_desk l.desk own)
