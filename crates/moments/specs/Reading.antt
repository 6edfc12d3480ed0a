-- The civil time that a text shows (RFC 5280 section 4.1.2.5).
use Rattle.std.specs.Prelude.{ℕ, ◌+◌, ◌-◌, ◌*◌, Bool, true, false, ◌&&◌, List, [], ◌∷◌, Option, Some, None, nat_lt, nat_le, ◌==◌, pos, if◌then◌else◌}
use Rattle.jiff_core.specs.Calendar.{days_in_month, day_count}
use Rattle.moments.specs.declared.civil.Civil.{Civil}
use Rattle.moments.specs.Civil.{second_of_day}

infixl 10 ◌>>=◌
abbrev pub ◌>>=◌ : {A B : Type 0} → Option A → (A → Option B) → Option B
(Some x) >>= f = f x
None >>= f = None

abbrev pub is_digit : ℕ → Bool
is_digit b = nat_le 48 b && nat_le b 57

-- The number of the two digits at the front, and the bytes behind them.
unfoldable pub pair_at : List ℕ → Option (ℕ × List ℕ)
pair_at [] = None
pair_at (a ∷ []) = None
pair_at (a ∷ b ∷ rest) = if is_digit a && is_digit b then Some ((a - 48) * 10 + (b - 48), rest)
    else None

-- The bytes are a Z.
abbrev pub is_z : List ℕ → Bool
is_z [] = false
is_z (b ∷ []) = b == 90
is_z (b ∷ c ∷ bytes) = false

-- The rest of a civil time, MMDDHHMMSSZ.
unfoldable pub after_year_at : ℕ → List ℕ → Option Civil
after_year_at year bytes = do
  month ← pair_at bytes
  day ← pair_at month.1
  hour ← pair_at day.1
  minute ← pair_at hour.1
  second ← pair_at minute.1
  if is_z second.1
      then Some (record {
        year = year;
        month = month.0;
        day = day.0;
        hour = hour.0;
        minute = minute.0;
        second = second.0;
      })
      else None

-- The year digits of a UTCTime from 50 on are of the twentieth century.
abbrev pub utc_year : ℕ → ℕ
utc_year digits = if nat_lt digits 50 then 2000 + digits else 1900 + digits

-- The civil time that the bytes show, whether or not the calendar has it.
unfoldable pub civil_at : Bool → List ℕ → Option Civil
civil_at true bytes = do
  century ← pair_at bytes
  year ← pair_at century.1
  after_year_at (century.0 * 100 + year.0) year.1
civil_at false bytes = do
  year ← pair_at bytes
  after_year_at (utc_year year.0) year.1

-- The calendar has the date, and the clock the time of day.
abbrev pub is_civil : Civil → Bool
is_civil c =
    nat_le 1 c.month && nat_le c.month 12 && nat_le 1 c.day
    && nat_le c.day (days_in_month (pos c.year) c.month)
    && nat_lt c.hour 24 && nat_lt c.minute 60 && nat_lt c.second 60

-- The seconds since 1970-01-01T00:00:00Z.
unfoldable pub seconds_at : Civil → ℕ
seconds_at c = (day_count (pos c.year) c.month c.day - day_count (pos 1970) 1 1) * 86_400
    + second_of_day c

-- The moment that a text spells.
unfoldable pub moment_in : Bool → List ℕ → Option ℕ
moment_in general bytes = do
  c ← civil_at general bytes
  if is_civil c && nat_le 2000 c.year then Some (seconds_at c) else None
