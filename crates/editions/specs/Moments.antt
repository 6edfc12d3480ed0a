-- The moment of the next edition, and the numbers that can't count further. Moments are in
-- seconds since 1970.
use Rattle.std.specs.Prelude.{ℕ, ◌+◌, ◌^◌, ◌<◌, ◌||◌, Bool, max, nat_lt, nat_le, find, All}
use Rattle.std.specs.Prelude.{List, [], ◌∷◌, Option, None, Some, if◌then◌else◌}
use Rattle.std.specs.List.{flat_map}
use Rattle.key_roll.specs.declared.rows.KeyRow.{KeyRow}

-- The clock's moment, or just behind the last edition's where that isn't later.
abbrev pub moment_behind : ℕ → ℕ → ℕ
moment_behind clock last = max clock (last + 1)

-- The clock is before the year 2000, or the moment behind the year 9998: what is valid for a year
-- from it on ends before the year 10000, as each date of an object does.
abbrev pub is_out_of_range : ℕ → ℕ → Bool
is_out_of_range clock last =
    nat_lt clock 946_684_800 || nat_lt 253_370_764_799 (moment_behind clock last)

-- The moment of the next edition, if the clock is in range.
abbrev pub moment_in_range : ℕ → ℕ → Option ℕ
moment_in_range clock last =
    if is_out_of_range clock last then None else Some (moment_behind clock last)

-- ---- counters

-- The least number at which a counter is at its end.
abbrev pub end_of_counters : ℕ
end_of_counters = 2 ^ 62

-- The counters of a key: the number of its CRL and manifest, and the serial that comes next.
abbrev pub counters : KeyRow → List ℕ
counters row = row.number ∷ row.next_serial ∷ []

abbrev pub counters_of : List KeyRow → List ℕ
counters_of rows = flat_map counters rows

-- The first of the edition's serial and the counters of its keys, in the order of the rows, that
-- is at its end.
abbrev pub first_at_end : ℕ → List KeyRow → Option ℕ
first_at_end serial rows = find (nat_le end_of_counters) (serial ∷ counters_of rows)

-- None of them is.
pub record AreBelowEnd (edition : ℕ) (rows : List KeyRow) : Type 0 where
  pub serial : edition < end_of_counters
  pub numbers : All (λ row. row.number < end_of_counters) rows
  pub serials : All (λ row. row.next_serial < end_of_counters) rows
