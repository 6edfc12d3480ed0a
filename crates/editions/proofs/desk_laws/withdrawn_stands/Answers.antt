use Rattle.std.proofs.Common.{sym, subst, List, ℕ, All}
use Rattle.std.specs.Prelude.{IsSome}
use Rattle.pub_set.specs.Objects.{found_at}
use Rattle.issue_plan.specs.Keys.{next_keys}
use Rattle.issue_plan.specs.Uris.{wanted_uris}
use Rattle.editions.proofs.PlanLemmas.Rest.{withdrawn-stands}
use Rattle.editions.proofs.desk_laws.withdrawn_stands.Goals as goal

pub returns : goal.returns
returns c = λ basis issued site work plan.
    subst (λ (l : List (List ℕ)). All (λ (uri : List ℕ). IsSome (found_at (λ row. row.uri) (λ row. row.hash) issued uri)) l) (sym plan.2.withdrawn)
    (withdrawn-stands (wanted_uris site basis.configs (next_keys basis) plan.0) issued)
