use Rattle.std.proofs.Common.{map, take}
use Rattle.std.specs.List.{AllZip, zip}
use Rattle.payloads.specs.ManifestFormats.{file_view}
use Rattle.issue_drafts.specs.IssueInput.{input_of}
use Rattle.issue_drafts.specs.Views.{draft_of}
use Rattle.issue_drafts.proofs.Merged.{OfKey}
use Rattle.issue_drafts.proofs.listing.files.Given as goal

abbrev pub invariant-loop-manifest : goal.invariant-loop-manifest
invariant-loop-manifest l =
    AllZip (OfKey (input_of l.at) l.touched (zip (map draft_of l.drafts) l.hashes))
    (map (λ m. m.issuer.row.now) (take l.manifest-index l.manifests)) (map (map file_view) l.lists.items)
