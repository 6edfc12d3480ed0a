-- What a call answers, and what a reading gives.
use Rattle.std.specs.Prelude.{◌≡◌, ⊤, Option, Some, None, Result, Ok, Err}
use Rattle.record_forms.specs.declared.fault.ReadFault.{ReadFault}
use Rattle.record_forms.specs.declared.fault.ReadFault.TheVariants.{Bad, Memory}

-- What a call answered, seen by view, is what the reading gives, unless memory ran out.
abbrev pub Gives : {X Y : Type 0} → (X → Y) → Result X ReadFault → Option Y → Type 0
Gives view (Ok x) read = read ≡ Some (view x)
Gives view (Err Bad) read = read ≡ None
Gives view (Err Memory) read = ⊤

-- This very value, unless memory ran out.
abbrev pub IsUnlessMemory : {X Y : Type 0} → (X → Y) → Result X ReadFault → Y → Type 0
IsUnlessMemory view (Ok x) y = view x ≡ y
IsUnlessMemory view (Err Bad) y = ⊥
IsUnlessMemory view (Err Memory) y = ⊤
