use Rattle.std.proofs.Common.{◌≡◌, ◌++◌, map, take}
use Rattle.issue_drafts.specs.Views.{draft_of}
use Rattle.issue_drafts.proofs.touching.push_drafts.Given as goal

abbrev pub invariant-loop-draft : goal.invariant-loop-draft
invariant-loop-draft l = l.uris.items ≡ l.fn.uris.items ++ map (λ d. d.uri)
    (map draft_of (take l.draft-index l.drafts))
