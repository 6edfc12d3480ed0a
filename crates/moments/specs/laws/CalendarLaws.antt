-- Counting years and months off gives the date of a day, and dates of one day are one.
use Rattle.std.proofs.Common.{◌≡◌, ℕ, zero, suc, ◌+◌, ◌-◌, ◌*◌, ◌/◌, ◌%◌, ◌<◌, ◌≤◌, ℤ, pos, ◌+ℤ◌, ◌-ℤ◌, ◌*ℤ◌, refl, sym, ap, subst, ◌∙◌, arith, inl, inr}
use Rattle.std.proofs.lemmas.Int.{ints}
use Rattle.std.proofs.lemmas.Bool.{cases_lt, cases_order, lt-ltb, le-ltb}
use Rattle.jiff_core.specs.Calendar.{IsCivilDate, days_in_year, days_in_month, days_of_years, days_of_months, day_count, days_from_civil}
use Rattle.jiff_core.proofs.CalendarLemmas.{day_count-epoch, day_count-end, day_count-next_year, day_count-day_of_year, day_count-day, day_count-lt_year, day_count-lt_month, day_count-year_is, day_of_year_bound, days_of_months-zero, days_of_months_more, days_of_months_all}
use Rattle.moments.specs.declared.civil.Civil.{Civil}
use Rattle.jiff_core.proofs.StandardFacts.{known_days}
use Rattle.moments.specs.Civil.{IsCivil, IsAt, IsMoment, second_of_day}
use Rattle.moments.specs.Days.{year_from, month_from, civil_of}

-- The days before a year.
abbrev before : ℕ → ℕ
before year = day_count (pos year) 1 1

pub record IsYearOf (year days first later : ℕ) : Type 0 where
  pub inside : days < days_in_year (pos year)
  pub count : before year + days ≡ first
  pub early : year < later

pub year_from-is : (turns year days later : ℕ) → year + turns ≡ later
    → before year + days < before later
    → IsYearOf (year_from turns year days).0 (year_from turns year days).1 (before year + days)
    later
unfolding year_from
year_from-is zero year days later e lt =
    let same : before year ≡ before later = ap before (omega arith) in
    absurd (omega arith)
year_from-is (suc turns) year days later e lt =
    elim (cases_lt days (days_in_year (pos year))) [
      | inl inside ↦ rw (lt-ltb days (days_in_year (pos year)) inside)
          (record { inside = inside; count = refl; early = omega arith })
      | inr beyond ↦
          let step : before (suc year) ≡ before year + days_in_year (pos year) =
          day_count-next_year (pos year) (pos (suc year)) (omega (arith, ints))
          (ap pos (omega arith)) in
          let whole : before (suc year) + (days - days_in_year (pos year)) ≡ before year + days =
          omega arith in
          let rest = year_from-is turns (suc year) (days - days_in_year (pos year)) later
          (omega arith) (omega arith) in
          rw (le-ltb days (days_in_year (pos year)) beyond)
          (record { inside = rest.inside; count = rest.count ∙ whole; early = rest.early })
    ]

pub record IsMonthOf (year month days first : ℕ) : Type 0 where
  pub inside : days < days_in_month (pos year) month
  pub count : days_of_months (pos year) (month - 1) + days ≡ first
  pub from : 1 ≤ month
  pub to : month ≤ 12

pub month_from-is : (turns year month days : ℕ) → month + turns ≡ 13 → 1 ≤ month
    → days_of_months (pos year) (month - 1) + days < days_of_months (pos year) 12
    → IsMonthOf year (month_from turns year month days).0 (month_from turns year month days).1
    (days_of_months (pos year) (month - 1) + days)
unfolding month_from
month_from-is zero year month days e from lt =
    let same : days_of_months (pos year) (month - 1) ≡ days_of_months (pos year) 12 =
    ap (days_of_months (pos year)) (omega arith) in
    absurd (omega arith)
month_from-is (suc turns) year month days e from lt =
    elim (cases_lt days (days_in_month (pos year) month)) [
      | inl inside ↦ rw (lt-ltb days (days_in_month (pos year) month) inside)
          (record { inside = inside; count = refl; from = from; to = omega arith })
      | inr beyond ↦
          let step : days_of_months (pos year) (suc month - 1) ≡ days_of_months (pos year)
          (month - 1) + days_in_month (pos year) month =
          ap (days_of_months (pos year)) (omega arith)
          ∙ days_of_months_more (pos year) month from in
          let whole : days_of_months (pos year) (suc month - 1)
          + (days - days_in_month (pos year) month) ≡ days_of_months (pos year) (month - 1)
          + days = omega arith in
          let rest = month_from-is turns year (suc month) (days - days_in_month (pos year) month)
          (omega arith) (omega arith) (omega arith) in
          rw (le-ltb days (days_in_month (pos year) month) beyond)
          (record {
            inside = rest.inside;
            count = rest.count ∙ whole;
            from = rest.from;
            to = rest.to;
          })
    ]

-- ---- the date of a day

years-from : (turns year days : ℕ) → year ≤ (year_from turns year days).0
unfolding year_from
years-from zero year days = omega arith
years-from (suc turns) year days =
    elim (cases_lt days (days_in_year (pos year))) [
      | inl inside ↦ rw (lt-ltb days (days_in_year (pos year)) inside) (omega arith)
      | inr beyond ↦ rw (le-ltb days (days_in_year (pos year)) beyond)
          (omega (arith, years-from turns (suc year) (days - days_in_year (pos year))))
    ]

pub record IsDateOf (day year month of_month : ℕ) : Type 0 where
  pub date : IsCivilDate (pos year) month of_month
  pub count : day_count (pos year) month of_month ≡ 4_371_953 + day
  pub from : 1970 ≤ year

date-from : (day : ℕ) → day ≤ 2_932_896
    → IsDateOf day (year_from 8030 1970 day).0
    (month_from 12 (year_from 8030 1970 day).0 1 (year_from 8030 1970 day).1).0
    ((month_from 12 (year_from 8030 1970 day).0 1 (year_from 8030 1970 day).1).1 + 1)
date-from day small =
    let start : before 1970 ≡ 4_371_953 = day_count-epoch in
    let end : before 10000 ≡ 7_304_850 = day_count-end in
    let y = year_from-is 8030 1970 day 10000 refl (omega arith) in
    let year = (year_from 8030 1970 day).0 in
    let days = (year_from 8030 1970 day).1 in
    let none : days_of_months (pos year) (1 - 1) ≡ 0 = days_of_months-zero (pos year) in
    let all : days_of_months (pos year) 12 ≡ days_in_year (pos year) =
    days_of_months_all (pos year) in
    let m = month_from-is 12 year 1 days refl (omega arith) (omega (arith, y.inside)) in
    let month = (month_from 12 year 1 days).0 in
    let into = (month_from 12 year 1 days).1 in
    let whole : day_count (pos year) month (into + 1) + 1
    ≡ before year + (days_of_months (pos year) (month - 1) + (into + 1)) =
    day_count-day_of_year (pos year) month (into + 1) (omega arith) in
    record {
      date = (
        (omega (arith, ints), omega (arith, ints, y.early)),
        (m.from, m.to),
        (omega arith, omega (arith, m.inside)),
      );
      count = omega (arith, m.count, y.count);
      from = years-from 8030 1970 day;
    }

pub record HasDate (seconds : ℕ) : Type 0 where
  pub date : IsDateOf (seconds / 86_400) (civil_of seconds).year (civil_of seconds).month
      (civil_of seconds).day

pub civil_of-date : (seconds : ℕ) → IsMoment seconds → HasDate seconds
unfolding civil_of
civil_of-date seconds moment =
    let to = moment.to in
    record { date = date-from (seconds / 86_400) (omega arith) }

pub civil_of-civil : (seconds : ℕ) → IsMoment seconds → IsCivil (civil_of seconds)
unfolding civil_of
civil_of-civil seconds moment =
    let to = moment.to in
    let d = date-from (seconds / 86_400) (omega arith) in
    record { date = d.date; hour = omega arith; minute = omega arith; second = omega arith }

difference : (a b n : ℕ) → a ≡ b + n → pos a -ℤ pos b ≡ pos n
difference a b n e = omega (arith, ints)

sum_from : (a b n : ℕ) → pos a -ℤ pos b ≡ pos n → a ≡ b + n
sum_from a b n e = omega (arith, ints)

pub days_from_civil-count : (y : ℤ) (m d day : ℕ) → day_count y m d ≡ 4_371_953 + day
    → days_from_civil y m d ≡ pos day
unfolding days_from_civil
days_from_civil-count y m d day e = difference (day_count y m d) (day_count (pos 1970) 1 1) day
    (omega (arith, day_count-epoch))

pub count-days_from_civil : (y : ℤ) (m d day : ℕ) → days_from_civil y m d ≡ pos day
    → day_count y m d ≡ 4_371_953 + day
unfolding days_from_civil
count-days_from_civil y m d day e =
    let e' : day_count y m d ≡ day_count (pos 1970) 1 1 + day =
    sum_from (day_count y m d) (day_count (pos 1970) 1 1) day e in
    omega (arith, day_count-epoch)

pub civil_of-at : (seconds : ℕ) → IsMoment seconds → IsAt (civil_of seconds) seconds
unfolding IsAt civil_of
civil_of-at seconds moment =
    let to = moment.to in
    let d = date-from (seconds / 86_400) (omega arith) in
    rw (days_from_civil-count _ _ _ (seconds / 86_400) d.count) (at seconds)
  where
    at : (seconds : ℕ)
        → pos seconds ≡ pos (seconds / 86_400) *ℤ pos 86_400
        +ℤ pos (seconds % 86_400 / 3600 * 3600 + seconds % 86_400 / 60 % 60 * 60 + seconds %
        86_400 % 60)
    at seconds = omega (arith, ints)

-- ---- one date for a day

pub same_date : (y z : ℤ) (m d n e : ℕ) → IsCivilDate y m d → IsCivilDate z n e
    → day_count y m d ≡ day_count z n e → (z ≡ y) × (n ≡ m) × (e ≡ d)
same_date y z m d n e a b same =
    let first = day_count-day_of_year y m d a.2.0 in
    let bound = day_of_year_bound y m d a in
    let low = a.2.0 in
    let year : z ≡ y = day_count-year_is y z n e a.0 b (omega arith) (omega arith) in
    let b' : IsCivilDate y n e = subst (λ (w : ℤ). IsCivilDate w n e) year b in
    let same' : day_count y m d ≡ day_count y n e = same ∙ ap (λ (w : ℤ). day_count w n e) year in
    let months : n ≡ m = elim (cases_order n m) [
      | inl equal ↦ equal
      | inr apart ↦ elim apart [
        | inl less ↦ absurd (omega (arith, day_count-lt_month y n e m d b' a.2.0 less))
        | inr more ↦ absurd (omega (arith, day_count-lt_month y m d n e a b'.2.0 more))
      ]
    ] in
    let same'' : day_count y m d ≡ day_count y m e = same'
    ∙ ap (λ (w : ℕ). day_count y w e) months in
    let days = day_count-day y m d e a.2.0 b'.2.0 in
    (year, months, omega arith)

-- ---- years and moments

pub count-2000 : day_count (pos 2000) 1 1 ≡ 4_382_910
count-2000 = omega (arith, count-days_from_civil (pos 2000) 1 1 10_957 known_days.2)

pub count-2050 : day_count (pos 2050) 1 1 ≡ 4_401_173
unfolding day_count days_of_years days_of_months
count-2050 = refl

first_of : (year : ℕ) → year ≤ 9999 → IsCivilDate (pos year) 1 1
first_of year small = (
  (omega (arith, ints), omega (arith, ints)),
  (omega arith, omega arith),
  (omega arith, omega arith),
)

-- From a year on, and before it.
pub count-from_year : (from year m d : ℕ) → IsCivilDate (pos year) m d → from ≤ year → from ≤ 9999
    → day_count (pos from) 1 1 ≤ day_count (pos year) m d
count-from_year from year m d a le small =
    elim (cases_order from year) [
      | inl same ↦
          let first = day_count-day_of_year (pos year) m d a.2.0 in
          let low = a.2.0 in
          subst (λ (y : ℕ). day_count (pos y) 1 1 ≤ day_count (pos year) m d) (sym same)
          (omega arith)
      | inr apart ↦ elim apart [
        | inl less ↦ let later = day_count-lt_year (pos from) 1 1 (pos year) m d
            (first_of from small) a.2.0 (omega (arith, ints)) in omega arith
        | inr more ↦ absurd (omega arith)
      ]
    ]

pub count-before_year : (to year m d : ℕ) → IsCivilDate (pos year) m d → year < to
    → day_count (pos year) m d < day_count (pos to) 1 1
count-before_year to year m d a lt = day_count-lt_year (pos year) m d (pos to) 1 1 a (omega arith)
    (omega (arith, ints))

pub year-small : (year : ℕ) (m d : ℕ) → IsCivilDate (pos year) m d → year ≤ 9999
year-small year m d a = let top = a.0.1 in omega (arith, ints)

-- The day and the time of day of a civil time that is at a moment.
pub at-parts : (c : Civil) (n : ℕ) → IsCivil c → IsAt c n → 1970 ≤ c.year
    → (day_count (pos c.year) c.month c.day ≡ 4_371_953 + n / 86_400)
    × (n % 86_400 ≡ second_of_day c)
unfolding IsAt
at-parts c n civil at late =
    let hour = civil.hour in
    let minute = civil.minute in
    let second = civil.second in
    let count = count-from_year 1970 c.year c.month c.day civil.date late (omega arith) in
    let day = day_count (pos c.year) c.month c.day - 4_371_953 in
    let start = day_count-epoch in
    let days : days_from_civil (pos c.year) c.month c.day ≡ pos day =
    days_from_civil-count (pos c.year) c.month c.day day (omega arith) in
    let whole : n ≡ day * 86_400 + second_of_day c =
    seconds-from n day (second_of_day c) (days_from_civil (pos c.year) c.month c.day) days at
    in
    (omega arith, omega arith)
  where
    seconds-from : (n day clock : ℕ) (days : ℤ) → days ≡ pos day
        → pos n ≡ days *ℤ pos 86_400 +ℤ pos clock → n ≡ day * 86_400 + clock
    seconds-from n day clock days e at =
        let at' : pos n ≡ pos day *ℤ pos 86_400 +ℤ pos clock =
        subst (λ (z : ℤ). pos n ≡ z *ℤ pos 86_400 +ℤ pos clock) e at in
        omega (arith, ints, at')

pub civil_of-clock : (n : ℕ) → ((civil_of n).hour ≡ n % 86_400 / 3600)
    × ((civil_of n).minute ≡ n % 86_400 / 60 % 60) × ((civil_of n).second ≡ n % 86_400 % 60)
unfolding civil_of
civil_of-clock n = (refl, refl, refl)

pub civil_ext : (a b : Civil) → a.year ≡ b.year → a.month ≡ b.month → a.day ≡ b.day
    → a.hour ≡ b.hour → a.minute ≡ b.minute → a.second ≡ b.second → a ≡ b
civil_ext a b y mo d h mi s =
    let civil_by : ℕ → ℕ → ℕ → ℕ → ℕ → ℕ
    → Civil =
    λ y mo d h mi s.
    record { year = y; month = mo; day = d; hour = h; minute = mi; second = s } in
    ap (λ (v : ℕ). civil_by v a.month a.day a.hour a.minute a.second) y
    ∙ ap (λ (v : ℕ). civil_by b.year v a.day a.hour a.minute a.second) mo
    ∙ ap (λ (v : ℕ). civil_by b.year b.month v a.hour a.minute a.second) d
    ∙ ap (λ (v : ℕ). civil_by b.year b.month b.day v a.minute a.second) h
    ∙ ap (λ (v : ℕ). civil_by b.year b.month b.day b.hour v a.second) mi
    ∙ ap (λ (v : ℕ). civil_by b.year b.month b.day b.hour b.minute v) s

-- The civil time of a moment is the one that is at it.
pub at-civil_of : (c : Civil) (n : ℕ) → IsCivil c → IsAt c n → 1970 ≤ c.year → IsMoment n
    → civil_of n ≡ c
at-civil_of c n civil at late moment =
    let parts = at-parts c n civil at late in
    let d = (civil_of-date n moment).date in
    let same = same_date (pos c.year) (pos (civil_of n).year) c.month c.day (civil_of n).month
    (civil_of n).day civil.date d.date (parts.0 ∙ sym d.count) in
    let hour = civil.hour in
    let minute = civil.minute in
    let second = civil.second in
    let year : (civil_of n).year ≡ c.year = omega (arith, ints, same.0) in
    let clock = civil_of-clock n in
    civil_ext (civil_of n) c year same.1 same.2 (clock.0 ∙ omega (arith, parts.1))
    (clock.1 ∙ omega (arith, parts.1)) (clock.2 ∙ omega (arith, parts.1))

-- A civil time from 2000 on is at a moment.
pub at-moment : (c : Civil) (n : ℕ) → IsCivil c → IsAt c n → 2000 ≤ c.year → IsMoment n
at-moment c n civil at late =
    let parts = at-parts c n civil at (omega arith) in
    let from = count-from_year 2000 c.year c.month c.day civil.date late (omega arith) in
    let to = count-before_year 10000 c.year c.month c.day civil.date
    (omega (arith, year-small c.year c.month c.day civil.date)) in
    let hour = civil.hour in
    let minute = civil.minute in
    let second = civil.second in
    record { from = omega (arith, count-2000); to = omega (arith, day_count-end) }

-- Moments are from 2000 on, and those before 2050 are of years before 2050.
pub moment-year : (n : ℕ) → IsMoment n → 2000 ≤ (civil_of n).year
moment-year n moment =
    let d = (civil_of-date n moment).date in
    let from = moment.from in
    elim (cases_lt (civil_of n).year 2000) [
      | inl early ↦ let before = count-before_year 2000 (civil_of n).year (civil_of n).month
          (civil_of n).day d.date early in let count = d.count in
          absurd (omega (arith, count-2000))
      | inr late ↦ late
    ]

pub moment-2050 : (n : ℕ) → IsMoment n → n < 2_524_608_000 → (civil_of n).year < 2050
moment-2050 n moment lt =
    let d = (civil_of-date n moment).date in
    elim (cases_lt (civil_of n).year 2050) [
      | inl early ↦ early
      | inr late ↦ let from = count-from_year 2050 (civil_of n).year (civil_of n).month
          (civil_of n).day d.date late (omega arith) in let count = d.count in
          absurd (omega (arith, count-2050))
    ]

pub year-2050 : (n : ℕ) → IsMoment n → (civil_of n).year < 2050 → n < 2_524_608_000
year-2050 n moment early =
    let d = (civil_of-date n moment).date in
    let before = count-before_year 2050 (civil_of n).year (civil_of n).month (civil_of n).day
    d.date early in
    let count = d.count in
    omega (arith, count-2050)
