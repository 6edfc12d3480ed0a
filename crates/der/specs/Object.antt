-- A whole object (X.690 section 8.1).
use Rattle.std.specs.Prelude.{◌≡◌, ℕ, ◌+◌, ◌<◌, ◌≤◌, ◌^◌, nat_lt, List, ◌++◌, length, take, Result, Err, ⊤, if◌then◌else◌}
use Rattle.der.specs.Grammar.{AreBytes}
use Rattle.der.specs.declared.shape_fault.ShapeFault.{ShapeFault}
use Rattle.der.specs.declared.shape_fault.ShapeFault.TheVariants.{Shape, Memory}
use Rattle.der.specs.Part.{start}
use Rattle.der.specs.Form.{Whole}

-- The bytes are the value's one spelling. No length takes more than four bytes.
pub record Spells {A : Type 0} (f : Whole A) (value : A) (bytes : List ℕ) : Type 0 where
  pub good : f.good value
  pub short : length bytes < 2 ^ 32
  pub spelled : bytes ≡ f.spelling value

-- The reading of a whole object.
abbrev pub read_object : {A : Type 0} → Whole A → List ℕ → Result A ShapeFault
read_object f bytes = if nat_lt (length bytes) (2 ^ 32) then f.read (start bytes) else Err (Shape (length bytes))

-- A place of a fault is true: it is at most the bytes' length, and below that no spelling begins with
-- the bytes up to it.
pub record IsTruePlace {A : Type 0} (f : Whole A) (bytes : List ℕ) (at : ℕ) : Type 0 where
  pub within : at ≤ length bytes
  pub none : at < length bytes → (value : A) (other rest : List ℕ) → AreBytes other
      → other ≡ take (at + 1) bytes ++ rest → Spells f value other → ⊥

-- A fault tells a true place.
abbrev pub IsTrueFault : {A : Type 0} → Whole A → List ℕ → ShapeFault → Type 0
IsTrueFault f bytes (Shape at) = IsTruePlace f bytes at
IsTrueFault f bytes Memory = ⊤
