-- What a clock gives, reading by reading.
use Rattle.std.specs.Prelude.{◌≡◌, ℕ, suc, Option, IfSome}
use Rattle.std.specs.Option.{option_map}

-- the readings behind the next one
abbrev pub later_readings : {X : Type 0} → (ℕ → X) → ℕ → X
later_readings readings number = readings (suc number)

-- A clock was read once: where it tells what its readings give, this is the next of them, and the
-- later ones are left.
pub record IsReading {X : Type 0} (old : Option (ℕ → X)) (reading : X) (new : Option (ℕ → X)) : Type 0 where
  pub is_next : IfSome old (λ readings. reading ≡ readings 0)
  pub left : new ≡ option_map later_readings old
