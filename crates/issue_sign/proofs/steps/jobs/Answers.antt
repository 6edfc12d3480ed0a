use Rattle.std.proofs.Common.{◌≡◌, Some, sym, ap, ◌∙◌}
use Rattle.std.specs.Prelude.{Vec}
use Rattle.std.specs.declared.alloc.Global.{Global}
use Rattle.signer_ring.specs.declared.jobs.SignJob.{SignJob}
use Rattle.issue_sign.proofs.Answered.{jobs-more, jobs-same}
use Rattle.issue_sign.proofs.steps.jobs.Goals.{in-Some+in_ok-push, in_default}
use Rattle.issue_sign.proofs.steps.jobs.Goals as goal

pub loop-step-preserved : goal.loop-step-preserved
loop-step-preserved c =
    let m = c.args.moment in
    let steps = c.args.steps.now in
    let i = c.loop-step.step-index in
    let st = c.step-item.result in
    let js = c.loop-step.jobs.items in
    elim c.match-branch-3.branch [
      | in-Some+in_ok-push w ↦ ap (λ (v : Vec SignJob Global). v.items) w.jobs-is
          ∙ (w.in_ok-push.ensures.items
          ∙ jobs-more m steps i st js (Some w.in-Some.job) c.loop-step-test.true c.step-item.is c.loop-step.invariant
          (sym w.in-Some.is ∙ c.in_ok-job.ensures))
      | in_default w ↦ ap (λ (v : Vec SignJob Global). v.items) w.jobs-is
          ∙ jobs-same m steps i st js c.loop-step-test.true c.step-item.is c.loop-step.invariant (sym w.in_default.is ∙ c.in_ok-job.ensures)
    ]
