-- A growing list of entries, and the entries of it that one seat made, each with its place.
-- An entry is the bytes of a command's record.
use Rattle.std.specs.Prelude.{◌≡◌, ◌⊎◌, ℕ, ◌<◌, ◌≤◌, List, [], ◌∷◌, ◌++◌, Option, Some, None}
use Rattle.std.specs.Prelude.{length, slice_get, if◌then◌else◌, nat_lt, ⊤}

-- the entry was made, at this place of the list
abbrev pub Has : List (ℕ × List ℕ) → ℕ → List ℕ → Type 0
Has [] place entry = ⊥
Has (x ∷ xs) place entry = (x ≡ (place, entry)) ⊎ Has xs place entry

-- each place is greater than all before it
abbrev pub Rises : List (ℕ × List ℕ) → Type 0
Rises [] = ⊤
Rises (x ∷ xs) = ((place : ℕ) (entry : List ℕ) → Has xs place entry → x.0 < place) × Rises xs

-- each place is one past the recovered entries
abbrev pub IsPast : ℕ → List (ℕ × List ℕ) → Type 0
IsPast recovered mine = (place : ℕ) (entry : List ℕ) → Has mine place entry → recovered ≤ place

-- each entry that was made stands in the list, at its place
abbrev pub StandsIn : List (List ℕ) → List (ℕ × List ℕ) → Type 0
StandsIn list mine =
    (place : ℕ) (entry : List ℕ) → Has mine place entry → slice_get list place ≡ Some entry

-- the same of the entries within the length of the list
abbrev pub StandsWithin : List (List ℕ) → List (ℕ × List ℕ) → Type 0
StandsWithin list mine =
    (place : ℕ) (entry : List ℕ) → Has mine place entry
    → place < length list → slice_get list place ≡ Some entry

-- no place of the one stands in the other
abbrev pub ShareNoPlace : List (ℕ × List ℕ) → List (ℕ × List ℕ) → Type 0
ShareNoPlace xs ys =
    (place : ℕ) (one other : List ℕ) → Has xs place one → Has ys place other → ⊥

-- one entry more, put in by its place
abbrev pub put_in : ℕ × List ℕ → List (ℕ × List ℕ) → List (ℕ × List ℕ)
put_in x [] = x ∷ []
put_in x (y ∷ ys) = if nat_lt x.0 y.0 then (x ∷ y ∷ ys) else (y ∷ put_in x ys)

-- the entries of both, by their places
abbrev pub joined : List (ℕ × List ℕ) → List (ℕ × List ℕ) → List (ℕ × List ℕ)
joined xs [] = xs
joined xs (y ∷ ys) = put_in y (joined xs ys)

-- the longer of two lists, and the other one
abbrev pub longer : List (List ℕ) → List (List ℕ) → List (List ℕ)
longer xs ys = if nat_lt (length xs) (length ys) then ys else xs

abbrev pub shorter : List (List ℕ) → List (List ℕ) → List (List ℕ)
shorter xs ys = if nat_lt (length xs) (length ys) then xs else ys

-- the list with the entry that is set aside to come next
abbrev pub with_coming : List (List ℕ) → Option (List ℕ) → List (List ℕ)
with_coming seen None = seen
with_coming seen (Some entry) = seen ++ entry ∷ []

-- What one seat made. It has seen the recovered entries; what it made is past them and rises by place;
-- and as far as it has seen the list, what it made stands there
pub record IsMadeIn
    (recovered : ℕ) (seen : List (List ℕ)) (mine : List (ℕ × List ℕ)) : Type 0 where
  pub known : recovered ≤ length seen
  pub rises : Rises mine
  pub past : IsPast recovered mine
  pub stands : StandsWithin seen mine
