-- What a refusal was met by.
use Rattle.std.specs.Prelude.{ℕ}

-- The code of the refusal, and the clock of the call that met it.
pub record MetValue : Type 0 where
  pub code : ℕ
  pub clock : ℕ
