-- What a reader of whole texts answers.
use Rattle.std.specs.Prelude.{ℕ, Option, Some, None}

-- a number that the text spells, or none exactly where it spells none
abbrev pub Reads : (ℕ → Type 0) → Option ℕ → Type 0
Reads Spells None = (n : ℕ) → ¬ (Spells n)
Reads Spells (Some n) = Spells n
