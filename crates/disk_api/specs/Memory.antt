-- A disk in memory, as the trait sees it.
use Rattle.std.specs.Prelude.{◌≡◌, ℕ, zero, ◌-◌, ◌≤◌, ◌||◌, Bool, true, false, cond, Option, None, Some, List, [], ◌∷◌, ◌++◌, length, take}
use Rattle.host_calls.specs.Schedule as schedule
use Rattle.host_calls.specs.Schedule.{faults_of}
use Rattle.host_calls.specs.declared.schedule.Schedule.{Schedule}
use Rattle.disk_api.specs.Steps.{IsImageAfter}
use Rattle.disk_api.specs.declared.step.Step.{Step}
use Rattle.disk_api.specs.declared.memory.MemoryDisk.{MemoryDisk}

-- what a read gives
abbrev pub memory_bytes : MemoryDisk → List ℕ
memory_bytes m = cond m.is_copied m.bytes.items m.first.items

-- what a crash after the first k changes might leave
abbrev pub IsImageAt : MemoryDisk → ℕ → List ℕ → Type 0
IsImageAt m k c = IsImageAfter m.first.items (λ e. e ≡ m.first.items) (take k m.steps.items) c

-- what a crash now may leave
abbrev pub IsImage : MemoryDisk → List ℕ → Type 0
IsImage m c = IsImageAfter m.first.items (λ e. e ≡ m.first.items) m.steps.items c

-- what a crash at some moment from t on might have left
abbrev pub IsImageSince : MemoryDisk → ℕ → List ℕ → Type 0
IsImageSince m t c = (k : ℕ) × (t ≤ k) × (k ≤ length m.steps.items) × IsImageAt m k c

-- which numbered calls fail, and how often one did
abbrev pub memory_schedule : MemoryDisk → Schedule
memory_schedule m = m.schedule

-- no call goes on any more
abbrev pub is_stopped : Option ℕ → Bool
is_stopped (Some zero) = true
is_stopped _ = false

-- the calls that go on before the disk stops, after one call
abbrev pub left_after : Option ℕ → Option ℕ
left_after None = None
left_after (Some n) = Some (n - 1)

-- the next call is one that is to fail, by its number or since the disk has stopped
abbrev pub fails_next : MemoryDisk → Bool
fails_next m = is_stopped m.left || schedule.fails_next (memory_schedule m)

-- how many calls go on before the disk stops, where it is to stop
abbrev pub memory_left : MemoryDisk → Option ℕ
memory_left m = m.left

-- its file and its images are those of the other
pub record IsSameFile (old new : MemoryDisk) : Type 0 where
  pub first : new.first.items ≡ old.first.items
  pub steps : new.steps.items ≡ old.steps.items
  pub bytes : memory_bytes new ≡ memory_bytes old

-- a change was made, or a sync
pub record TakesStep (old new : MemoryDisk) (step : Step) : Type 0 where
  pub first : new.first.items ≡ old.first.items
  pub steps : new.steps.items ≡ old.steps.items ++ step ∷ []

-- a call was counted
pub record CountsCall (old new : MemoryDisk) : Type 0 where
  pub numbered : schedule.CountsCall (memory_schedule old) (memory_schedule new)
  pub left : memory_left new ≡ left_after (memory_left old)

-- how many changes and syncs there were, and how often it has failed
abbrev pub memory_moment : MemoryDisk → ℕ
memory_moment m = length m.steps.items

abbrev pub memory_faults : MemoryDisk → ℕ
memory_faults m = faults_of (memory_schedule m)
