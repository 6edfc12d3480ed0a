use Rattle.std.proofs.Common.{◌≡◌, map, take}
use Rattle.issue_drafts.proofs.Pointed.{has_manifest}
use Rattle.issue_drafts.proofs.point_keys.points.Given as goal

abbrev pub invariant-loop-manifest : goal.invariant-loop-manifest
invariant-loop-manifest l = l.points.items ≡ map (has_manifest (take l.manifest-index l.manifests)) l.rows
