-- What a call answers, and what a reading gives.
use Rattle.std.specs.Prelude.{◌≡◌, ◌≢◌, Result, Ok, Err}
use Rattle.der.specs.declared.shape_fault.ShapeFault.{ShapeFault}
use Rattle.der.specs.declared.shape_fault.ShapeFault.TheVariants.{Memory}

-- What a call answered, seen by view, is what the reading gives.
abbrev pub Gives : {X Y : Type 0} → (X → Y) → Result X ShapeFault → Result Y ShapeFault → Type 0
Gives view (Ok x) read = read ≡ Ok (view x)
Gives view (Err e) read = read ≡ Err e

-- The same, unless memory ran out.
abbrev pub GivesUnlessMemory : {X Y : Type 0} → (X → Y) → Result X ShapeFault → Result Y ShapeFault → Type 0
GivesUnlessMemory view (Ok x) read = read ≡ Ok (view x)
GivesUnlessMemory view (Err e) read = e ≢ Memory → read ≡ Err e

-- Memory ran out, or the answer is such.
abbrev pub UnlessMemory : {A : Type 0} → (A → Type 0) → Result A ShapeFault → Type 0
UnlessMemory P (Ok x) = P x
UnlessMemory P (Err e) = e ≡ Memory
