use Rattle.std.proofs.Common.{◌≡◌, map, take}
use Rattle.issue_drafts.specs.Views.{draft_of}
use Rattle.issue_drafts.specs.inner.Holdings.{made_key}
use Rattle.issue_drafts.proofs.holdings.made_keys.Given as goal

abbrev pub invariant-loop-draft : goal.invariant-loop-draft
invariant-loop-draft l = l.keys.items ≡ map (made_key l.anchor) (map draft_of (take l.draft-index l.drafts))
