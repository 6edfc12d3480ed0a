use Rattle.std.proofs.Common.{◌≡◌, take}
use Rattle.std.specs.List.{filter_map}
use Rattle.issue_sign.specs.inner.Steps.{job_of}
use Rattle.issue_sign.proofs.steps.jobs.Given as goal

abbrev pub invariant-loop-step : goal.invariant-loop-step
invariant-loop-step l = l.jobs.items ≡ filter_map (job_of l.moment) (take l.step-index l.steps)
