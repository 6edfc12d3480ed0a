use Rattle.issue_drafts.specs.IssueInput.{input_of}
use Rattle.issue_make.proofs.Coming.{is-of}
use Rattle.issue_make.proofs.outcomes.publish_plan.Goals as goal

pub returns : goal.returns
returns c = λ trace is.
    let of = is-of (input_of c.args.input.now) c.args.plan.now c.args.objects trace
    (record { drafts = c.deref.result; given = c.deref-2.result; manifests = c.deref-3.result; next = c.deref-4.result })
    c.deref.ensures.value c.deref-2.ensures.value c.deref-3.ensures.value c.deref-4.ensures.value is in record {
      rising = c.in_ok-published.ensures.rising;
      changes = c.in_ok-published.ensures.changes trace of;
      listed = c.in_ok-published.ensures.listed;
      count = c.in_ok-published.ensures.count trace of;
      issued = c.in_ok-published.ensures.issued trace of;
    }
