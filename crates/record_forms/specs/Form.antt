-- What a form of records is. A value has one spelling.
use Rattle.std.specs.Prelude.{◌≡◌, ℕ, ◌<◌, ◌^◌, List, ◌++◌, length, slice_index, Option, Some}

-- Each place holds a byte.
abbrev pub AreBytes : List ℕ → Type 0
AreBytes bytes = (i : ℕ) → slice_index bytes i < 256

-- A form of values whose spellings stand in front of others: which values have a spelling, the one
-- spelling, and the reading, a function that computes from bytes to the value in front of them and
-- the bytes behind it, if a value is spelled there.
pub record Form (A : Type 0) : Type 1 where
  pub good : A → Type 0
  pub spelling : A → List ℕ
  pub read : List ℕ → Option (A × List ℕ)

-- The law of a form: what is spelled, in fewer than 2 ^ 32 bytes, is read, whatever follows it; and
-- what is read is good, and spelled so.
pub record IsForm {A : Type 0} (f : Form A) : Type 0 where
  pub again : (x : A) (rest : List ℕ) → f.good x → length (f.spelling x) < 2 ^ 32
      → f.read (f.spelling x ++ rest) ≡ Some (x, rest)
  pub taken : (x : A) (bytes rest : List ℕ) → AreBytes bytes → f.read bytes ≡ Some (x, rest)
      → f.good x × (bytes ≡ f.spelling x ++ rest)

-- The bytes are the value's one spelling. No count and no length takes more than four bytes.
pub record Spells {A : Type 0} (f : Form A) (x : A) (bytes : List ℕ) : Type 0 where
  pub good : f.good x
  pub short : length bytes < 2 ^ 32
  pub spelled : bytes ≡ f.spelling x
