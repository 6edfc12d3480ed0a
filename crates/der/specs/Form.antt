-- What a format is. Its values have one spelling each, as DER wants it (X.690 section 10).
use Rattle.std.specs.Prelude.{◌≡◌, ℕ, ◌+◌, ◌≤◌, ◌⊎◌, List, ◌∷◌, ◌++◌, length, Result, Ok, Err}
use Rattle.der.specs.declared.shape_fault.ShapeFault.{ShapeFault}
use Rattle.der.specs.declared.shape_fault.ShapeFault.TheVariants.{Shape, Memory}
use Rattle.der.specs.Part.{Place, IsInput, IsPlace}

-- A format of values whose spellings are all of a part: which values have a spelling, the one
-- spelling, and the reading at a place.
pub record Whole (A : Type 0) : Type 1 where
  pub good : A → Type 0
  pub spelling : A → List ℕ
  pub read : Place → Result A ShapeFault

-- A format of values whose spellings stand in front of others: the reading gives the place behind too.
pub record Front (A : Type 0) : Type 1 where
  pub good : A → Type 0
  pub spelling : A → List ℕ
  pub read : Place → Result (A × Place) ShapeFault

-- Bytes that the format has.
pub record Takes {A : Type 0} (f : Whole A) (bytes : List ℕ) : Type 0 where
  pub value : A
  pub good : f.good value
  pub spelled : bytes ≡ f.spelling value

-- Bytes that begin with a spelling.
pub record Begins {A : Type 0} (f : Front A) (bytes : List ℕ) : Type 0 where
  pub value : A
  pub rest : List ℕ
  pub good : f.good value
  pub spelled : bytes ≡ f.spelling value ++ rest

-- The byte at that place ends all hope: whatever follows it, no bytes that go on so are in K.
pub record Dies (K : List ℕ → Type 0) (p : Place) (at : ℕ) : Type 0 where
  pub front : List ℕ
  pub byte : ℕ
  pub more : List ℕ
  pub parts : p.left ≡ front ++ (byte ∷ more)
  pub place : at ≡ p.at + length front
  pub dead : (other : List ℕ) → IsInput (front ++ (byte ∷ other)) → K (front ++ (byte ∷ other)) → ⊥

-- A fault is told at the last place, or at a byte that ends all hope.
abbrev pub IsTold : (List ℕ → Type 0) → Place → ShapeFault → Type 0
IsTold K p (Shape at) = (at ≡ p.last) ⊎ Dies K p at
IsTold K p Memory = ⊥

-- The law of a format: what is spelled is read; what is read is spelled so; and faults are told.
pub record IsWhole {A : Type 0} (f : Whole A) : Type 0 where
  pub again : (x : A) (p : Place) → f.good x → IsPlace p → p.left ≡ f.spelling x → f.read p ≡ Ok x
  pub taken : (x : A) (p : Place) → IsPlace p → f.read p ≡ Ok x → f.good x × (p.left ≡ f.spelling x)
  pub fault : (e : ShapeFault) (p : Place) → IsPlace p → f.read p ≡ Err e → IsTold (Takes f) p e

-- The place behind the front, of some bytes.
pub record IsBehind (front : List ℕ) (p q : Place) : Type 0 where
  pub left : p.left ≡ front ++ q.left
  pub at : q.at ≡ p.at + length front
  pub last : q.last ≡ p.last

pub record IsFront {A : Type 0} (f : Front A) : Type 0 where
  pub again : (x : A) (p q : Place) → f.good x → IsPlace p → IsBehind (f.spelling x) p q
      → f.read p ≡ Ok (x, q)
  pub taken : (x : A) (p q : Place) → IsPlace p → f.read p ≡ Ok (x, q)
      → f.good x × IsBehind (f.spelling x) p q
  pub fault : (e : ShapeFault) (p : Place) → IsPlace p → f.read p ≡ Err e → IsTold (Begins f) p e
  pub some : (x : A) → f.good x → 1 ≤ length (f.spelling x)
