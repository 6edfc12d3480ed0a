-- Where a reader stands.
use Rattle.std.specs.Prelude.{◌≡◌, ℕ, ◌+◌, List, ◌++◌, length}

-- at: how many bytes of the reader's slice lie before it. left: the bytes from there to the end.
pub record Position : Type 0 where
  pub at : ℕ
  pub left : List ℕ

-- From old to new the reader passed just these bytes.
pub record Passes (bytes : List ℕ) (old new : Position) : Type 0 where
  pub left : old.left ≡ bytes ++ new.left
  pub at : new.at ≡ old.at + length bytes
