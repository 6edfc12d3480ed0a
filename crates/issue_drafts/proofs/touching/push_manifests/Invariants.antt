use Rattle.std.proofs.Common.{◌≡◌, ◌++◌, map, take}
use Rattle.issue_drafts.specs.Views.{manifest_of}
use Rattle.issue_drafts.proofs.touching.push_manifests.Given as goal

abbrev pub invariant-loop-manifest : goal.invariant-loop-manifest
invariant-loop-manifest l = l.uris.items ≡ l.fn.uris.items ++ map (λ d. d.uri)
    (map manifest_of (take l.manifest-index l.manifests))
