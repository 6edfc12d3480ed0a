-- Numbers of any size as 64 bits tell them.
use Rattle.std.specs.Prelude.{◌≡◌, ℕ, List, Option, option_map}
use Rattle.ip_text.specs.Number.{saturated}
use Rattle.origins.specs.Text.{IsLengthsText}

-- a maximum, or that there is none
abbrev pub IsTold : Option ℕ → Option ℕ → Type 0
IsTold told maximum = told ≡ option_map saturated maximum

-- a length and a maximum that the text writes
pub record TellsLengths (text : List ℕ) (told_len : ℕ) (told : Option ℕ) : Type 0 where
  pub len : ℕ
  pub maximum : Option ℕ
  pub written : IsLengthsText text len maximum
  pub len_told : told_len ≡ saturated len
  pub maximum_told : IsTold told maximum
