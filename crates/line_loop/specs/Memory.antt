-- What is seen of the ends in memory.
use Rattle.std.specs.Prelude.{ℕ, zero, suc, List, [], ◌∷◌, drop}
use Rattle.host_calls.specs.declared.schedule.Schedule.{Schedule}
use Rattle.line_loop.specs.declared.memory.MemorySource.{MemorySource}
use Rattle.line_loop.specs.declared.memory.MemorySink.{MemorySink}
use Rattle.line_loop.specs.declared.memory.ListClock.{ListClock}

-- the bytes that a source will still give
abbrev pub source_left : MemorySource → List ℕ
source_left source = drop source.at source.bytes.items

-- how many bytes a call gives at most
abbrev pub source_piece : MemorySource → ℕ
source_piece source = source.piece

-- which of its calls fail
abbrev pub source_schedule : MemorySource → Schedule
source_schedule source = source.schedule

-- the bytes that a sink has taken
abbrev pub sink_bytes : MemorySink → List ℕ
sink_bytes sink = sink.bytes.items

-- how many bytes a call takes at most
abbrev pub sink_piece : MemorySink → ℕ
sink_piece sink = sink.piece

-- which of its calls fail
abbrev pub sink_schedule : MemorySink → Schedule
sink_schedule sink = sink.schedule

-- the moments that a clock will still give, of which the last comes again and again
abbrev pub clock_moments : ListClock → List ℕ
clock_moments clock = drop clock.at clock.moments.items

-- what such moments give, by the number of the reading
abbrev pub moment_at : List ℕ → ℕ → ℕ
moment_at [] number = 0
moment_at (x ∷ []) number = x
moment_at (x ∷ y ∷ ys) zero = x
moment_at (x ∷ y ∷ ys) (suc number) = moment_at (y ∷ ys) number
