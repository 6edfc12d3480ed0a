-- The origins of a configuration, as they are kept.
use Rattle.std.specs.Prelude.{ℕ, List}
use Rattle.origins.specs.declared.Origin.{Origin}

-- The origins, how many more can be taken without memory, and how many places before the first
-- are free.
pub record KeptOrigins : Type 0 where
  pub items : List Origin
  pub room : ℕ
  pub gap : ℕ
