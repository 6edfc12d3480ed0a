use Rattle.std.proofs.Common.{◌≡◌, ◌≤◌, ◌<◌, ◌-◌, ℕ, IfSome, length, slice_index, take, drop}
use Rattle.disk_api.specs.Runs.{Rests}
use Rattle.gate_journal.proofs.open.fill.Given as goal

abbrev pub invariant-loop-got : goal.invariant-loop-got
invariant-loop-got g l = record {
  within : l.got ≤ length l.into;
  known : IfSome (g.D.Disk.content l.fn.disk) (λ bytes. (l.got ≤ length bytes - l.fn.at) × (take l.got l.into ≡ take l.got (drop l.fn.at bytes)));
  rests : Rests g.D.Disk l.fn.disk l.disk;
  bytes : (i : ℕ) → slice_index l.into i < 256;
  later : g.D.Disk.fault_count l.fn.disk ≤ g.D.Disk.fault_count l.disk;
}

abbrev pub decreases-loop-got : goal.decreases-loop-got
decreases-loop-got g l = length l.initial.into - l.got
