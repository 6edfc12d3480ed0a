use Rattle.std.proofs.Common.{◌∙◌}
use Rattle.std.proofs.lemmas.Bool.{false≢true}
use Rattle.res_sets.proofs.Lists.{spans_first}
use Rattle.res_sets.proofs.sets.Ranges.holds_range.Goals as goal

pub returns-in-None : goal.returns-in-None
returns-in-None c =
    rw (← c.self.view_is, ← c.deref.ensures.value)
    (λ no. absurd (false≢true no), λ whole. absurd (false≢true (c.in-None.ensures.found ∙ whole c.args.range.now.first (spans_first c.args.range.now))))
