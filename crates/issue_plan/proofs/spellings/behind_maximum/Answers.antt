use Rattle.std.proofs.Common.{◌≡◌, [], arith}
use Rattle.std.proofs.lemmas.Grind.{common_steps}
use Rattle.origins.specs.Origin.{maximum_text}
use Rattle.issue_plan.proofs.SpellingLemmas.{behind-none}
use Rattle.issue_plan.proofs.spellings.behind_maximum.Goals as goal

pub returns-then-max-length : goal.returns-then-max-length
returns-then-max-length c =
    let none : maximum_text c.args.length c.args.max ≡ [] = grind (arith, common_steps) in
    behind-none c.args.digits.now (maximum_text c.args.length c.args.max) none
