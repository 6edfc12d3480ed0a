use Rattle.std.proofs.Common.{◌≤◌, ◌*◌, take, arith}
use Rattle.std.specs.Prelude.{sum_by}
use Rattle.issue_drafts.specs.Views.{kind_of}
use Rattle.issue_drafts.specs.declared.draft.Draft as code
use Rattle.issue_make.specs.Trace.{signatures_of}
use Rattle.issue_make.proofs.Sums.{first-few, sums-are}
use Rattle.issue_make.proofs.counting.signatures.Goals as goal

pub overflow_add-count : goal.overflow_add-count
overflow_add-count c =
    let before : sum_by (λ (d : code.Draft). signatures_of (kind_of d.kind)) (take c.loop-draft.draft-index c.args.drafts.now)
    ≤ 2 * c.loop-draft.draft-index =
    first-few c.args.drafts.now c.loop-draft.draft-index (omega arith) in
    omega (arith, c.loop-draft.invariant, c.signatures_of-count.ensures.few)

pub returns : goal.returns
returns c = λ trace drafts manifests.
    sums-are trace c.args.drafts.now c.args.manifests.now c.loop-draft.count c.loop-draft.draft-index
    c.loop-draft.invariant c.loop-draft-test.false drafts manifests
