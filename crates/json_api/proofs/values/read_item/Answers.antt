use Rattle.std.proofs.Common.{◌≡◌, ℕ, List, Some, Option, IsSomeAnd, MatchOption, subst}
use Rattle.serde_json.specs.Find.{as_str}
use Rattle.serde_json.specs.View.{view}
use Rattle.origins.specs.declared.Origin.{Origin}
use Rattle.origins.specs.Origin.{SpellsOrigin}
use Rattle.json_api.proofs.values.read_item.Goals as goal

pub returns-in-Some : goal.returns-in-Some
returns-in-Some c =
    let found : Some c.in-Some.text.now ≡ as_str (view c.args.item.now) = c.in-Some.ensures in
    subst (λ (t : Option (List ℕ)). MatchOption c.origin_of.result
    ((origin : Origin) → ¬ IsSomeAnd t (λ text. SpellsOrigin text origin))
    (λ origin. IsSomeAnd t (λ text. SpellsOrigin text origin)))
    found c.origin_of.ensures
