-- The civil time of a moment, counted off year by year and month by month (RFC 5280 section
-- 4.1.2.5).
use Rattle.std.specs.Prelude.{ℕ, zero, suc, ◌+◌, ◌-◌, ◌/◌, ◌%◌, nat_lt, pos, if◌then◌else◌}
use Rattle.jiff_core.specs.Calendar.{days_in_year, days_in_month}
use Rattle.moments.specs.declared.civil.Civil.{Civil}

-- The year, and the days into it, so many days after 1 January of a year, at most so many years
-- later.
unfoldable pub year_from : ℕ → ℕ → ℕ → ℕ × ℕ
year_from zero year days = (year, days)
year_from (suc turns) year days =
    if nat_lt days (days_in_year (pos year)) then (year, days)
    else year_from turns (suc year) (days - days_in_year (pos year))

-- The month of a year, and the days into it, so many days after the first of a month.
unfoldable pub month_from : ℕ → ℕ → ℕ → ℕ → ℕ × ℕ
month_from zero year month days = (month, days)
month_from (suc turns) year month days =
    if nat_lt days (days_in_month (pos year) month) then (month, days)
    else month_from turns year (suc month) (days - days_in_month (pos year) month)

-- The civil time so many seconds after 1970-01-01T00:00:00Z, up to the year 9999.
unfoldable pub civil_of : ℕ → Civil
civil_of seconds =
    let year = year_from 8030 1970 (seconds / 86_400) in
    let month = month_from 12 year.0 1 year.1 in
    let clock = seconds % 86_400 in
    record {
      year = year.0;
      month = month.0;
      day = month.1 + 1;
      hour = clock / 3600;
      minute = clock / 60 % 60;
      second = clock % 60;
    }
