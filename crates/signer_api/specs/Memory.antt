-- A signer in memory, as the trait sees it, and which of its calls fail.
use Rattle.std.specs.Prelude.{◌≡◌, ℕ, ◌==◌, nat_eq, Bool, is_ok, cond, List, Some, length, map, Result}
use Rattle.std.specs.List.{list_any}
use Rattle.std.specs.Cmp.Lexicographic.{pointwise}
use Rattle.host_calls.specs.Schedule as schedule
use Rattle.host_calls.specs.Schedule.{faults_of}
use Rattle.host_calls.specs.declared.schedule.Schedule.{Schedule}
use Rattle.signer_api.specs.State.{SignerState, Signed, next_count}
use Rattle.signer_api.specs.State.Vouching.{Listed}
use Rattle.signer_api.specs.declared.values.PublicKey.{PublicKey}
use Rattle.signer_api.specs.declared.memory.Remembered.{Remembered}
use Rattle.signer_api.specs.declared.memory.MemorySigner.{MemorySigner}

abbrev pub signed_of : Remembered → Signed
signed_of r = record { key = r.key.bytes; digest = r.digest.bytes; signature = r.signature.bytes }

abbrev pub memory_state : MemorySigner → SignerState
memory_state m = record {
  vouching = Listed (map signed_of m.signed.items);
  keys = Some (map (λ (key : PublicKey). key.bytes) m.keys.items);
  signatures = length m.signed.items;
  once = m.once;
  faults = faults_of m.schedule;
}

-- the bytes that its keys come from
abbrev pub memory_start : MemorySigner → List ℕ
memory_start m = m.start

-- the number of its next key
abbrev pub memory_next : MemorySigner → ℕ
memory_next m = m.next

-- which of its calls fail, and how often one did
abbrev pub memory_schedule : MemorySigner → Schedule
memory_schedule m = m.schedule

-- it holds the key with these bytes
abbrev pub holds_key : MemorySigner → List ℕ → Bool
holds_key m key = list_any (λ (held : PublicKey). pointwise nat_eq held.bytes key) m.keys.items

-- A numbered call was made, which made so many keys.
pub record CountsCall (old new : MemorySigner) (made : ℕ) : Type 0 where
  pub numbered : schedule.CountsCall (memory_schedule old) (memory_schedule new)
  pub start : memory_start new ≡ memory_start old
  pub next : memory_next new ≡ cond (made == 0) (memory_next old) (next_count (memory_next old))

-- Its keys to come and its calls to fail are as they were.
pub record IsSameScript (old new : MemorySigner) : Type 0 where
  pub numbered : schedule.IsSameScript (memory_schedule old) (memory_schedule new)
  pub start : memory_start new ≡ memory_start old
  pub next : memory_next new ≡ memory_next old

-- One key is made at Ok, and none at Err.
abbrev pub made_by : {T E : Type 0} → Result T E → ℕ
made_by result = cond (is_ok result) 1 0
