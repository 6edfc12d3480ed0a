-- A disk that isn't known.
use Rattle.std.specs.Prelude.{◌≡◌, ℕ, Some, None, List}
use Rattle.std.proofs.lemmas.Option.{none-some}

-- it has no known bytes
pub known_is_left : (bytes : List ℕ) → None ≡ Some bytes → ⊥
known_is_left bytes is = none-some bytes is
