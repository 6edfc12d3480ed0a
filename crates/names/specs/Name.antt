-- Names of authorities.
use Rattle.std.specs.Prelude.{◌≡◌, ℕ, ◌<◌, ◌≤◌, ◌-◌, List, ◌++◌, length, take, replicate, Bool, ◌||◌, ◌==◌}
use Rattle.std.specs.Char.{is_ascii_alphanumeric}
use Rattle.std.specs.List.{AllPass}

-- An ASCII letter, a digit, `-` (45) or `_` (95).
abbrev pub is_name_byte : ℕ → Bool
is_name_byte c = is_ascii_alphanumeric c || (c == 45) || (c == 95)

-- A name: 1 to 64 such bytes.
pub record IsName (text : List ℕ) : Type 0 where
  pub not_empty : 0 < length text
  pub short : length text ≤ 64
  pub plain : AllPass is_name_byte text

-- Zeros behind a text, up to 64 bytes.
abbrev pub padded : List ℕ → List ℕ
padded text = text ++ replicate (64 - length text) 0

-- A name as it is kept: its bytes, then zeros.
pub record IsPaddedName (bytes : List ℕ) (len : ℕ) : Type 0 where
  pub within : len ≤ length bytes
  pub name : IsName (take len bytes)
  pub filled : bytes ≡ padded (take len bytes)
