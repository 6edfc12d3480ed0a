use Rattle.std.proofs.Common.{◌≡◌, map, take, All}
use Rattle.std.specs.List.{filter_map}
use Rattle.issue_drafts.specs.Drafts.{manifest_draft}
use Rattle.issue_drafts.specs.Views.{manifest_of, IsPositioned}
use Rattle.issue_drafts.specs.DraftInput.{setting_in, keys_in}
use Rattle.issue_drafts.proofs.ordered.unordered_manifests.Given as goal

abbrev pub invariant-loop-point : goal.invariant-loop-point
invariant-loop-point l = record {
  drafts : map manifest_of l.drafts.items ≡ filter_map (manifest_draft (setting_in l.at) (keys_in l.at)) (take l.point-index l.points);
  positioned : All (λ d. IsPositioned l.at.rows.now d.issuer) l.drafts.items;
}
