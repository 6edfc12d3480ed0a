-- What reading a body answers (RFC 9582 section 4, RFC 9286 section 4.2).
use Rattle.std.specs.Prelude.{◌≡◌, ◌≢◌, ℕ, Bool, false, Option, Some, None, List, Result, Ok, Err, ⊤}
use Rattle.der.specs.Form.{Whole}
use Rattle.der.specs.Object.{Spells, IsTruePlace}
use Rattle.der.specs.declared.shape_fault.ShapeFault.{ShapeFault}
use Rattle.der.specs.declared.shape_fault.ShapeFault.TheVariants.{Shape as NoShape, Memory as NoMemory}
use Rattle.payloads.specs.declared.fault.BodyFault.{BodyFault}
use Rattle.payloads.specs.declared.fault.BodyFault.TheVariants.{Shape, Order, Memory}

abbrev pub body_fault : ShapeFault → BodyFault
body_fault (NoShape at) = Shape at
body_fault NoMemory = Memory

-- The value if it is ordered, or else the first place that isn't.
abbrev pub value_or : {A : Type 0} → A → Option ℕ → Result A BodyFault
value_or x None = Ok x
value_or x (Some at) = Err (Order at)

-- What a reading without regard to order comes to: what is read, and the first place that is out
-- of order.
abbrev pub ordered : {A B : Type 0} → (A → B) → (A → Option ℕ) → Result A ShapeFault
    → Result B BodyFault
ordered value place (Ok x) = value_or (value x) (place x)
ordered value place (Err e) = Err (body_fault e)

-- What a call answered, seen by view, is this, unless memory ran out.
abbrev pub GivesBody : {X Y : Type 0} → (X → Y) → Result X BodyFault → Result Y BodyFault → Type 0
GivesBody view (Ok x) read = read ≡ Ok (view x)
GivesBody view (Err e) read = e ≢ Memory → read ≡ Err e

-- Memory ran out, or the answer is such.
abbrev pub UnlessNoMemory : {A : Type 0} → (A → Type 0) → Result A BodyFault → Type 0
UnlessNoMemory P (Ok x) = P x
UnlessNoMemory P (Err e) = e ≡ Memory

-- The order is told, or memory ran out.
abbrev pub IsOrderOrMemory : {A : Type 0} → Result A BodyFault → Type 0
IsOrderOrMemory (Ok x) = ⊥
IsOrderOrMemory (Err (Shape at)) = ⊥
IsOrderOrMemory (Err (Order at)) = ⊤
IsOrderOrMemory (Err Memory) = ⊤

-- The bytes spell a value that isn't ordered.
pub record IsDisorder {A : Type 0} (f : Whole A) (is_ordered : A → Bool) (bytes : List ℕ) : Type 0
  where
    pub value : A
    pub spelled : Spells f value bytes
    pub unordered : is_ordered value ≡ false

-- A fault is told rightly, f being the format without regard to order.
abbrev pub IsTrueBodyFault : {A : Type 0} → Whole A → (A → Bool) → List ℕ → BodyFault → Type 0
IsTrueBodyFault f is_ordered bytes (Shape at) = IsTruePlace f bytes at
    × (IsDisorder f is_ordered bytes → ⊥)
IsTrueBodyFault f is_ordered bytes (Order at) = IsDisorder f is_ordered bytes
IsTrueBodyFault f is_ordered bytes Memory = ⊤
