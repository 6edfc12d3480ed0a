use Rattle.std.proofs.Common.{◌+◌, ◌≤◌}
use Rattle.test_threads.proofs.words.run.Given as goal

abbrev pub invariant-loop-step : goal.invariant-loop-step
invariant-loop-step g l = l.stand ≤ l.count + l.step-index
