use Rattle.std.proofs.Common.{◌≡◌, ℕ, ◌<◌, Some, length, get_or, subst, ap, ◌∙◌}
use Rattle.std.specs.Prelude.{IfSome, option_and_then}
use Rattle.entitle.specs.declared.trees.Owed.{Owed}
use Rattle.issue_plan.specs.declared.anew.Standing.{Standing}
use Rattle.issue_plan.specs.inner.Positions.{position_in}
use Rattle.issue_plan.specs.inner.OwedPlaces.{owed_place, IsFolder}
use Rattle.issue_plan.proofs.PlaceLemmas.{one-noted}
use Rattle.issue_plan.proofs.owed_places.note.Goals as goal

pub returns : goal.returns
returns c = λ s folder at are.
    let owed = c.args.owed.now in
    let found = subst (λ o. IfSome o (λ index. (index < length owed)
    × ((s : Standing) (d : Owed) → IsFolder s c.args.folder.now
    → owed_place s.site.now s.names.now (get_or owed index d) ≡ Some c.args.row.now.uri)))
    c.in-Some.is c.in_ok-index.ensures in
    one-noted s owed c.args.noted.now.items c.in-Some.index c.args.position found.0
    (λ d. ap (option_and_then (position_in s.issued.now)) (found.1 s d folder) ∙ at) are
