use Rattle.std.proofs.Common.{◌≡◌}
use Rattle.test_histories.specs.Standing.{IsAt}
use Rattle.test_histories.proofs.store.play.Given as goal

abbrev pub invariant-loop-step : goal.invariant-loop-step
invariant-loop-step g l = IsAt l.store.desks.items l.store.press l.done.items × (l.store.press.press.site ≡ l.site)
