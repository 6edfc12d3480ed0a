use Rattle.std.proofs.Common.{◌≡◌, ◌+◌, ◌*◌, length, take}
use Rattle.std.specs.Prelude.{sum_by}
use Rattle.issue_drafts.specs.Views.{kind_of}
use Rattle.issue_make.specs.Trace.{signatures_of}
use Rattle.issue_make.proofs.counting.signatures.Given as goal

abbrev pub invariant-loop-draft : goal.invariant-loop-draft
invariant-loop-draft l =
    l.count ≡ 2 * length l.manifests + sum_by (λ d. signatures_of (kind_of d.kind)) (take l.draft-index l.drafts)
