use Rattle.std.proofs.Common.{◌≡◌, Some, true, Option, IsSomeAnd, IsTrue, subst, sym, ◌∙◌}
use Rattle.serde_json.specs.Data.{Members}
use Rattle.serde_json.specs.Find.{as_object}
use Rattle.serde_json.specs.View.{view, members_view}
use Rattle.json_api.specs.Line.{all_names, is_set_name}
use Rattle.json_api.proofs.OriginTexts.{all_names-members_view}
use Rattle.json_api.proofs.values.has_set_names_alone.Goals as goal

pub returns-in-Some : goal.returns-in-Some
returns-in-Some c =
    let found : Some (members_view c.in-Some.members.now.entries) ≡ as_object (view c.args.value.now) = c.in-Some.ensures in
    let test = c.have_set_names.ensures ∙ all_names-members_view is_set_name c.in-Some.members.now.entries in
    subst (λ (o : Option Members). (IsTrue c.have_set_names.result → IsSomeAnd o (λ members. all_names is_set_name members ≡ true))
    × (IsSomeAnd o (λ members. all_names is_set_name members ≡ true) → IsTrue c.have_set_names.result))
    found (λ t. sym test ∙ t, λ e. test ∙ e)
