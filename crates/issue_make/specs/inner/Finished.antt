-- What the objects of a plan come to once they are signed.
use Rattle.std.specs.Prelude.{◌≡◌, List, All}
use Rattle.signer_api.specs.State.{SignerState}
use Rattle.signer_ring.specs.Calls.{after_calls, IsVouched}
use Rattle.key_roll.specs.declared.rows.KeyRow.{KeyRow}
use Rattle.issue_drafts.specs.WorkKeys.{Keys}
use Rattle.issue_drafts.specs.IssueInput.{IssueInput}
use Rattle.issue_make.specs.declared.made.Made.{Made}
use Rattle.issue_make.specs.Trace.{IssuingTrace, IsIssuingTrace, made_of, IsSpelled}
use Rattle.issue_make.specs.Made.{to_manifests}
use Rattle.issue_make.specs.inner.Outcomes.{IsOutcome}

-- The signers made these calls, for the objects over those keys, and they come to that.
pub record IsFinished
    (s : IssueInput) (live rows : List KeyRow) (keys : Keys) (old new : List SignerState)
    (made : Made) : Type 0 where
  pub trace : IssuingTrace
  pub is_trace : IsIssuingTrace s live trace
  pub over : trace.keys ≡ keys
  pub signers : new ≡ after_calls old (to_manifests s trace)
  pub vouched : All (IsVouched new) (to_manifests s trace)
  pub spelled : All (λ x. IsSpelled s trace x.draft x.draft.kind x.answers) (made_of trace)
  pub outcome : IsOutcome s rows trace made
