use Rattle.std.proofs.Common.{◌≡◌, ℕ, Some, true, List, ◌++◌, subst, sym, ap, ◌∙◌}
use Rattle.std.specs.Prelude.{IfSome, string_bytes}
use Rattle.std.proofs.lemmas.Result.{IfOk-weaker}
use Rattle.issue_plan.specs.Uris.{roa_file}
use Rattle.issue_plan.specs.inner.OwedPlaces.{folder_at}
use Rattle.issue_plan.proofs.PlaceLemmas.{place-in}
use Rattle.issue_plan.proofs.owed_places.is_place_of.Goals as goal

pub returns : goal.returns
returns c =
    let owed = c.args.owed.now in
    let desk = c.args.folder.now.desk in
    let folder = string_bytes c.in-Some.uri in
    let uri = c.args.row.now.uri in
    IfOk-weaker c.is_roa_in.result
    (λ is. is ≡ true → c.as_str-2.result.now ≡ c.as_str.result.now ++ roa_file owed.origin) _
    (λ is at there s of.
    let here : folder_at s.site.now s.names.now desk ≡ Some folder =
    subst (λ o. IfSome o (λ uri. folder_at s.site.now s.names.now desk ≡ Some (string_bytes uri))) c.in-Some.is of in
    place-in s owed desk folder uri here c.if-owed-folder.false
    (sym c.as_str-2.ensures ∙ (at there ∙ ap (λ (l : List ℕ). l ++ roa_file owed.origin) c.as_str.ensures.value)))
    c.is_roa_in.ensures
