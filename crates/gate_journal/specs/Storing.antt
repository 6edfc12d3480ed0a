-- What the disk may hold while a record is stored behind the closed gate.
use Rattle.std.specs.Prelude.{◌≡◌, ◌⊎◌, ℕ, ◌+◌, ◌-◌, Option, List, [], ◌∷◌, ◌++◌, length, take, drop, IfSome}
use Rattle.std.specs.Int.{w64, to_be_bytes}

-- what stands behind the gate of a record, and the closed gate after it
abbrev pub entry_bytes : List ℕ → List ℕ
entry_bytes payload = to_be_bytes w64 (length payload) ++ (payload ++ 0 ∷ [])

-- the bytes with the record behind the gate that ends at held, and that gate open
abbrev pub stored : ℕ → List ℕ → List ℕ → List ℕ
stored held new bytes = take (held - 1) bytes ++ (1 ∷ (new ++ drop (held + length new) bytes))

-- the gate and what is before it are untouched
abbrev pub IsBehindGate : ℕ → List ℕ → List ℕ → Type 0
IsBehindGate held bytes c = take held c ≡ take held bytes

-- the record is whole behind some gate
pub record HasRecord (held : ℕ) (new bytes c : List ℕ) : Type 0 where
  pub gate : ℕ
  pub whole : c ≡ take (held - 1) bytes ++ (gate ∷ (new ++ drop (held + length new) bytes))

abbrev pub IsStoring : ℕ → List ℕ → List ℕ → List ℕ → Type 0
IsStoring held new bytes c = IsBehindGate held bytes c ⊎ HasRecord held new bytes c

-- the same of an image, where the disk is known
abbrev pub IsStoringKnown : ℕ → List ℕ → Option (List ℕ) → List ℕ → Type 0
IsStoringKnown held new content c = IfSome content (λ bytes. IsStoring held new bytes c)
