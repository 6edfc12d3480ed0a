-- Calls that are made again where a signal interrupts them.
use Rattle.std.specs.Prelude.{◌≡◌, ℕ, List, Option}
use Rattle.std.specs.Io.KnownBytes.{Keeps}

-- Between two tries nothing was read or written, and no fault was counted: what is held or left, and
-- the count of faults, before the first try and now.
abbrev pub IsUntouched : Option (List ℕ) → Option (List ℕ) → ℕ → ℕ → Type 0
IsUntouched held_before held count_before count =
    record { kept : Keeps held_before held; counted : count ≡ count_before }
