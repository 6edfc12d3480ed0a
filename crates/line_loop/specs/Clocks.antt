-- What a clock gives of its readings.
use Rattle.std.specs.Prelude.{ℕ, zero, suc, ◌/◌, Option, None, Some, List, [], ◌∷◌, drop}
use Rattle.std.specs.Option.{option_map}
use Rattle.std.specs.declared.time.Duration.{Duration}
use Rattle.std.specs.Duration.{as_nanos}
use Rattle.line_loop.specs.declared.clocks.ClockOver.{ClockOver}
use Rattle.line_loop.specs.declared.clocks.PlayedClock.{PlayedClock}

-- the whole seconds of a reading in nanoseconds, and 0 where there is none
abbrev pub seconds_of : Option ℕ → ℕ
seconds_of None = 0
seconds_of (Some nanos) = nanos / 1_000_000_000

-- the seconds of each reading
abbrev pub seconds_given : (ℕ → Option ℕ) → ℕ → ℕ
seconds_given readings number = seconds_of (readings number)

abbrev pub raw_clock : {C : Type 0} → ClockOver C → C
raw_clock over = over.clock

-- the readings that a clock in memory will still give
abbrev pub readings_left : PlayedClock → List (Option Duration)
readings_left clock = drop clock.at clock.readings.items

-- what such readings give in nanoseconds, by their number, and none behind the last
abbrev pub reading_at : List (Option Duration) → ℕ → Option ℕ
reading_at [] number = None
reading_at (reading ∷ readings) zero = option_map as_nanos reading
reading_at (reading ∷ readings) (suc number) = reading_at readings number
