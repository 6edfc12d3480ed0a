-- Civil times of the proleptic Gregorian calendar in UTC (RFC 5280 section 4.1.2.5).
use Rattle.std.specs.Prelude.{◌≡◌, ℕ, ◌+◌, ◌*◌, ◌<◌, ◌≤◌, pos, ◌+ℤ◌, ◌*ℤ◌}
use Rattle.jiff_core.specs.Calendar.{IsCivilDate, days_from_civil}
use Rattle.jiff_core.specs.declared.civil.date.Date.{Date}
use Rattle.moments.specs.declared.civil.Civil.{Civil}

-- The calendar has the date, and the clock the time, without leap seconds.
pub record IsCivil (c : Civil) : Type 0 where
  pub date : IsCivilDate (pos c.year) c.month c.day
  pub hour : c.hour < 24
  pub minute : c.minute < 60
  pub second : c.second < 60

-- The seconds since midnight.
abbrev pub second_of_day : Civil → ℕ
second_of_day c = c.hour * 3600 + c.minute * 60 + c.second

-- The civil time is that many seconds after 1970-01-01T00:00:00Z.
unfoldable pub IsAt : Civil → ℕ → Type 0
IsAt c seconds = pos seconds ≡ days_from_civil (pos c.year) c.month c.day *ℤ pos 86_400
    +ℤ pos (second_of_day c)

-- The moments that have a spelling here: from 2000-01-01T00:00:00Z to 9999-12-31T23:59:59Z.
pub record IsMoment (seconds : ℕ) : Type 0 where
  pub from : 946_684_800 ≤ seconds
  pub to : seconds ≤ 253_402_300_799

-- The date is the civil time's.
pub record IsDateOf (c : Civil) (d : Date) : Type 0 where
  pub year : d.year ≡ pos c.year
  pub month : d.month ≡ c.month
  pub day : d.day ≡ c.day
