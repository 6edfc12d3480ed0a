use Rattle.std.proofs.Common.{◌≡◌, take}
use Rattle.disk_api.specs.Steps.{content_after}
use Rattle.disk_api.proofs.image.replayed.Given as goal

abbrev pub invariant-loop-step : goal.invariant-loop-step
invariant-loop-step l = l.bytes.items ≡ content_after l.first (take l.step-index l.steps)
