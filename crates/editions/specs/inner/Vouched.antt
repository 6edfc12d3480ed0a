-- The signatures of an edition's making, which are vouched.
use Rattle.std.specs.Prelude.{All}
use Rattle.rp_rules.specs.Certificates.{Vouched}
use Rattle.issue_drafts.specs.IssueInput.{IssueInput}
use Rattle.issue_sign.specs.Calls.{first_calls, second_calls}
use Rattle.issue_make.specs.Trace.{IssuingTrace, all_of}
use Rattle.editions.specs.VouchedCalls.{IsVouchedBy}

-- Those of certificates, ROAs and CRLs are.
pub record AreVouched (vouched : Vouched) (s : IssueInput) (trace : IssuingTrace) : Type 0 where
  pub first : All (IsVouchedBy vouched)
      (first_calls s trace.keys (all_of s trace) trace.entries trace.objects)
  pub second : All (IsVouchedBy vouched)
      (second_calls s trace.keys (all_of s trace) trace.objects)
