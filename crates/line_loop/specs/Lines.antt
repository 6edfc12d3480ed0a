-- The lines of a stream of bytes. A line ends at a line feed, byte 10, or at the end of the input.
use Rattle.std.specs.Prelude.{◌==◌, ℕ, Bool, List, [], ◌∷◌}
use Rattle.std.specs.List.{slice_split}

abbrev pub is_feed : ℕ → Bool
is_feed b = b == 10

-- Every line of an input that ends here, without its line feed. The last one, which no line feed ends,
-- may be empty.
abbrev pub all_lines : List ℕ → List (List ℕ)
all_lines bytes = slice_split is_feed bytes

-- all but the last
abbrev pub front : {X : Type 0} → List X → List X
front [] = []
front (x ∷ []) = []
front (x ∷ y ∷ ys) = x ∷ front (y ∷ ys)

-- the lines that a line feed ends
abbrev pub ended_lines : List ℕ → List (List ℕ)
ended_lines bytes = front (all_lines bytes)
