use Rattle.std.proofs.Common.{◌≢◌, ◌≤◌, ◌<◌, ℕ, slice_index_or}
use Rattle.disk_api.specs.declared.step.Step.{Step}
use Rattle.disk_api.specs.declared.step.Step.TheVariants.{Sync}
use Rattle.disk_api.proofs.image.synced.Given as goal

abbrev pub invariant-loop-i : goal.invariant-loop-i
invariant-loop-i l = record {
  within : l.end ≤ l.i;
  none_after : (k : ℕ) (d : Step) → l.end ≤ k → k < l.i → slice_index_or l.steps k d ≢ Sync;
}
