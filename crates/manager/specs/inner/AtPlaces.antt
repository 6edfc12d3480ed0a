-- What stands at the places of the desks, and at those of a list.
use Rattle.std.specs.Prelude.{◌≡◌, ◌<◌, ◌-◌, ◌^◌, ℕ, min, List, Some, slice_get}
use Rattle.atomic_table.specs.Seated.{TableId}
use Rattle.commit_word.specs.Entries.{Has}

-- Each word is that of its place.
abbrev pub AreWords : (ℕ → TableId) → List TableId → Type 0
AreWords words all = (place : ℕ) (word : TableId) → slice_get all place ≡ Some word → word ≡ words place

-- Each entry that was made stands below this place.
abbrev pub AreWithin : List (ℕ × List ℕ) → ℕ → Type 0
AreWithin mine end = (place : ℕ) (entry : List ℕ) → Has mine place entry → place < end

-- A count of 64 bits, which stands still at its end.
abbrev pub counted_up : ℕ → ℕ
counted_up n = min n (2 ^ 64 - 1)
