use Rattle.std.proofs.Common.{[], ◌∷◌}
use Rattle.std.specs.Prelude.{decimal}
use Rattle.issue_plan.proofs.SpellingLemmas.{behind-both}
use Rattle.issue_plan.proofs.spellings.behind_marked.Goals as goal

pub returns : goal.returns
returns c =
    behind-both c.args.digits.now (c.args.mark ∷ []) c.in_ok-behind_mark.behind_mark.now (decimal c.args.number)
    c.in_ok-rest.rest.now c.in_ok-behind_mark.ensures c.in_ok-rest.ensures
