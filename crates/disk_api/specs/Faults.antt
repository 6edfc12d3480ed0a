-- A disk's count of faults.
use Rattle.std.specs.Prelude.{◌≤◌, ℕ, Result, OnErr, IsErrOf}
use Rattle.host_calls.specs.Rise.{HasRisen}
use Rattle.disk_api.specs.declared.disk.DiskStop.{DiskStop}
use Rattle.disk_api.specs.declared.disk.DiskStop.TheVariants.{Fault}

-- the count never falls, and rises at a fault
pub record CountsFaults {T : Type 0} (before after : ℕ) (result : Result T DiskStop) : Type 0 where
  pub later : before ≤ after
  pub fault : IsErrOf result Fault → HasRisen before after

-- the count never falls, and rises at each answer but `Ok`
pub record CountsStops {T : Type 0} (before after : ℕ) (result : Result T DiskStop) : Type 0 where
  pub later : before ≤ after
  pub stop : OnErr result (HasRisen before after)
