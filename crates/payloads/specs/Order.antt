-- Lists that rise, and the first value of a list that isn't above the one before it. So stand the
-- entries of a ROA (RFC 9582 section 4.3.3), and the names of a manifest here.
use Rattle.std.specs.Prelude.{ℕ, Bool, true, ◌&&◌, Option, Some, None, List, [], ◌∷◌, if◌then◌else◌}

abbrev pub rises_above : {A : Type 0} → (A → A → Bool) → A → List A → Bool
rises_above below x [] = true
rises_above below x (y ∷ ys) = below x y && rises_above below y ys

-- Each value is above the one before it.
abbrev pub rises : {A : Type 0} → (A → A → Bool) → List A → Bool
rises below [] = true
rises below (x ∷ xs) = rises_above below x xs

abbrev pub unordered_above : {A : Type 0} → (A → A → Bool) → A → List (ℕ × A) → Option ℕ
unordered_above below x [] = None
unordered_above below x (y ∷ ys) = if below x y.1 then unordered_above below y.1 ys else Some y.0

-- Of values with their places: the place of the first that isn't above the one before it.
abbrev pub first_unordered : {A : Type 0} → (A → A → Bool) → List (ℕ × A) → Option ℕ
first_unordered below [] = None
first_unordered below (x ∷ xs) = unordered_above below x.1 xs
