-- How std's kinds of errors are called, and what a count of failures shows of an answer.
use Rattle.std.specs.Prelude.{◌≡◌, ◌+◌, ℕ, Result, Ok, Err}
use Rattle.host_calls.specs.Rise.{HasRisen}
use Rattle.std.specs.declared.io.ErrorKind.{ErrorKind}
use Rattle.std.specs.declared.io.ErrorKind.TheVariants as kinds
use Rattle.host_calls.specs.declared.CallFault.{CallFault}
use Rattle.host_calls.specs.declared.CallFault.TheVariants.{Interrupted, Memory, Failed}

abbrev pub call_fault : ErrorKind → CallFault
call_fault kinds.Interrupted = Interrupted
call_fault kinds.OutOfMemory = Memory
call_fault _ = Failed

-- The count of failures, and how many more interruptions are none, before and after an answer: an
-- interruption uses one of these up, and every other fault is a failure.
abbrev pub CountsAnswer : {T : Type 0} → ℕ → ℕ → ℕ → ℕ → Result T CallFault → Type 0
CountsAnswer before after patience left (Ok value) = (after ≡ before) × (left ≡ patience)
CountsAnswer before after patience left (Err Interrupted) = (after ≡ before) × (patience ≡ left + 1)
CountsAnswer before after patience left (Err Memory) = HasRisen before after
CountsAnswer before after patience left (Err Failed) = HasRisen before after

-- what a call is told that may not be interrupted
abbrev pub last_of : CallFault → CallFault
last_of Interrupted = Failed
last_of Memory = Memory
last_of Failed = Failed
