-- What a sink takes of a piece.
use Rattle.std.specs.Prelude.{ℕ, List, take, Option, Result, MatchResult}
use Rattle.std.specs.Io.KnownBytes.{Appends}

-- the first n bytes at Ok n, and some of the first at Err
abbrev pub TakesFront : {E : Type 0} → Option (List ℕ) → Option (List ℕ) → Result ℕ E → List ℕ → Type 0
TakesFront old new result bytes = MatchResult result (λ n. Appends old new (take n bytes)) (λ _. (n : ℕ) × Appends old new (take n bytes))
