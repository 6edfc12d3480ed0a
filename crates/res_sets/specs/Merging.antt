-- Lists of ranges while they are made, range by range.
use Rattle.std.specs.Prelude.{ℕ, ◌+◌, Option, None, Some, List, [], ◌∷◌}
use Rattle.res_sets.specs.declared.numbers.Range.{Range}

-- the least number at which a range may begin behind the ranges, which begin at low or later
abbrev pub room_from : ℕ → List Range → ℕ
room_from low [] = low
room_from low (range ∷ ranges) = room_from (range.last + 2) ranges

-- where the last range begins, or 0
abbrev pub last_first : List Range → ℕ
last_first [] = 0
last_first (range ∷ []) = range.first
last_first (range ∷ next ∷ ranges) = last_first (next ∷ ranges)

-- the least number at which a range may begin behind the range before, if any
abbrev pub low_after : Option Range → ℕ
low_after None = 0
low_after (Some before) = before.last + 2
