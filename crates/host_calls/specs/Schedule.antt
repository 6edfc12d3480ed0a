-- Which numbered calls of an object in memory are to fail, and how often one failed.
use Rattle.std.specs.Prelude.{◌≡◌, ℕ, ◌+◌, ◌-◌, ◌^◌, ◌==◌, min, Bool, List}
use Rattle.std.specs.List.{list_any}
use Rattle.host_calls.specs.declared.schedule.Schedule.{Schedule}

-- the numbers, from 1, of the calls that are to fail
abbrev pub fails_of : Schedule → List ℕ
fails_of schedule = schedule.fails.items

-- how many calls were made, which stands still at the last value of a u64
abbrev pub calls_of : Schedule → ℕ
calls_of schedule = schedule.calls

-- how often a call failed
abbrev pub faults_of : Schedule → ℕ
faults_of schedule = schedule.faults

-- the number of the next call, from 1
abbrev pub next_call : Schedule → ℕ
next_call schedule = min (calls_of schedule + 1) (2 ^ 64 - 1)

-- the next call is one that is to fail
abbrev pub fails_next : Schedule → Bool
fails_next schedule = list_any (λ number. number == next_call schedule) (fails_of schedule)

-- no call was made yet, and these are to fail
pub record IsFresh (schedule : Schedule) (fails : List ℕ) : Type 0 where
  pub fails_are : fails_of schedule ≡ fails
  pub no_call : calls_of schedule ≡ 0
  pub no_fault : faults_of schedule ≡ 0

-- a call was counted
pub record CountsCall (old new : Schedule) : Type 0 where
  pub calls : calls_of new ≡ next_call old
  pub fails : fails_of new ≡ fails_of old

-- the numbers of the calls to come are those of the other, and so are those that are to fail
pub record IsSameScript (old new : Schedule) : Type 0 where
  pub calls : calls_of new ≡ calls_of old
  pub fails : fails_of new ≡ fails_of old
