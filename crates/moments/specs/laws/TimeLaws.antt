-- Texts, civil times and moments: which text is read as what.
use Rattle.std.proofs.Common.{◌≡◌, ℕ, ◌+◌, ◌-◌, ◌*◌, ◌/◌, ◌<◌, ◌≤◌, Bool, false, List, Some, None, ℤ, pos, ◌+ℤ◌, ◌*ℤ◌, sym, ap, subst, ◌∙◌, arith, true, cond, ◌&&◌, Option, Result, Ok, Err, refl}
use Rattle.std.specs.Prelude.{IfOk, nat_le, nat_lt}
use Rattle.std.specs.Result.{result_ok}
use Rattle.std.proofs.lemmas.Bool.{and_from, and_parts, le-leb, leb-true, lt-ltb, ltb-true}
use Rattle.std.proofs.lemmas.Int.{ints}
use Rattle.jiff_core.specs.Calendar.{IsCivilDate, days_from_civil, day_count, days_in_month}
use Rattle.jiff_core.proofs.CalendarLemmas.{days_in_month_bounds, day_count-end, day_count-epoch}
use Rattle.moments.specs.declared.civil.Civil.{Civil}
use Rattle.moments.specs.declared.fault.TimeFault.{TimeFault}
use Rattle.moments.specs.Civil.{IsCivil, IsAt, IsMoment, second_of_day}
use Rattle.moments.specs.Days.{civil_of}
use Rattle.moments.specs.Text.{civil_text, time_text, HasText}
use Rattle.moments.specs.Reading.{civil_at, is_civil, seconds_at, moment_in}
use Rattle.moments.specs.laws.CalendarLaws.{civil_of-civil, civil_of-at, at-civil_of, moment-year, moment-2050, year-2050, at-moment, year-small, civil_of-date, same_date, count-from_year, count-before_year, count-2000, days_from_civil-count, count-days_from_civil}
use Rattle.moments.specs.laws.DigitLaws.{IsShown, civil-again, one_civil, bind_some, guard_some, civil-taken}

pub shown : (general : Bool) (c : Civil) → HasText general c → IsShown general c
shown general c has =
    let civil = has.civil in
    let month = civil.date.1 in
    let day = civil.date.2 in
    let hour = civil.hour in
    let minute = civil.minute in
    let second = civil.second in
    record {
      short = record {
        month = omega arith;
        day = omega (arith, days_in_month_bounds (pos c.year) c.month);
        hour = omega arith;
        minute = omega arith;
        second = omega arith;
      };
      year = omega (arith, year-small c.year c.month c.day civil.date);
      years = has.years;
    }

pub moment-text : (general : Bool) (n : ℕ) → IsMoment n → (general ≡ false → n < 2_524_608_000)
    → HasText general (civil_of n)
moment-text general n moment before =
    record {
      civil = civil_of-civil n moment;
      years = λ e. (omega (arith, moment-year n moment), moment-2050 n moment (before e));
    }

pub unfolded : (general : Bool) (n : ℕ) (bytes : List ℕ) → bytes ≡ time_text general n
    → bytes ≡ civil_text general (civil_of n)
unfolding time_text
unfolded general n bytes e = e

-- Where nothing is shown, or nothing that the calendar has, the bytes are no text.
pub no_text : (general : Bool) (bytes : List ℕ) → civil_at general bytes ≡ None → (c : Civil)
    → HasText general c → bytes ≡ civil_text general c → ⊥
no_text general bytes read c has e =
    let again : civil_at general bytes ≡ Some c =
    rw e (civil-again general c (shown general c has)) in
    cc

pub no_civil : (general : Bool) (bytes : List ℕ) (a : Civil) → civil_at general bytes ≡ Some a
    → (IsCivil a → ⊥) → (c : Civil) → HasText general c → bytes ≡ civil_text general c → ⊥
no_civil general bytes a read not_civil c has e =
    not_civil
    (subst (λ (x : Civil). IsCivil x)
    (one_civil general bytes a c read (shown general c has) e) has.civil)

-- The text of a moment is read as its civil time.
pub moment-read : (general : Bool) (bytes : List ℕ) (a : Civil) (n : ℕ)
    → civil_at general bytes ≡ Some a → IsMoment n → (general ≡ false → n < 2_524_608_000)
    → bytes ≡ time_text general n → civil_of n ≡ a
unfolding time_text
moment-read general bytes a n read moment before e =
    one_civil general bytes a (civil_of n) read
    (shown general (civil_of n) (moment-text general n moment before)) e

same_pos : (m n : ℕ) → pos m ≡ pos n → m ≡ n
same_pos m n e = cc

-- Moments that are at one civil time are one.
pub one_moment : (c : Civil) (m n : ℕ) → IsAt c m → IsAt c n → m ≡ n
unfolding IsAt
one_moment c m n a b = same_pos m n (a ∙ sym b)

pub one_time : (general : Bool) (m n : ℕ) → IsMoment m → IsMoment n
    → (general ≡ false → m < 2_524_608_000) → (general ≡ false → n < 2_524_608_000)
    → time_text general m ≡ time_text general n → m ≡ n
unfolding time_text
one_time general m n a b before_m before_n e =
    let read =
    civil-again general (civil_of m)
    (shown general (civil_of m) (moment-text general m a before_m)) in
    let same : civil_of n ≡ civil_of m = one_civil general (civil_text general (civil_of m))
    (civil_of m) (civil_of n) read
    (shown general (civil_of n) (moment-text general n b before_n)) e in
    one_moment (civil_of m) m n (civil_of-at m a)
    (subst (λ (c : Civil). IsAt c n) same (civil_of-at n b))

-- What is read from 2000 on.
pub found-text : (general : Bool) (bytes : List ℕ) (a : Civil) (n : ℕ)
    → bytes ≡ civil_text general a → IsCivil a → IsAt a n → 2000 ≤ a.year
    → IsMoment n × (bytes ≡ time_text general n)
unfolding time_text
found-text general bytes a n e civil at late =
    let moment = at-moment a n civil at late in
    (moment, e ∙ ap (civil_text general) (sym (at-civil_of a n civil at (omega arith) moment)))

pub found-years : (general : Bool) (a : Civil) (n : ℕ) → IsShown general a → IsCivil a → IsAt a n
    → 2000 ≤ a.year → general ≡ false → n < 2_524_608_000
found-years general a n is_shown civil at late e =
    let moment = at-moment a n civil at late in
    let same = at-civil_of a n civil at (omega arith) moment in
    year-2050 n moment (subst (λ (c : Civil). c.year < 2050) (sym same) (is_shown.years e).1)

-- The day number of a civil time's date.
pub day-number : (c : Civil) (y : ℤ) (m d : ℕ) → IsCivil c → 2000 ≤ c.year → y ≡ pos c.year
    → m ≡ c.month → d ≡ c.day → (k : ℕ) × (days_from_civil y m d ≡ pos k) × (k ≤ 2_932_896)
day-number c y m d civil late ey em ed =
    let from = count-from_year 2000 c.year c.month c.day civil.date late (omega arith) in
    let to = count-before_year 10000 c.year c.month c.day civil.date
    (omega (arith, year-small c.year c.month c.day civil.date)) in
    let k = day_count (pos c.year) c.month c.day - 4_371_953 in
    let days : days_from_civil (pos c.year) c.month c.day ≡ pos k =
    days_from_civil-count (pos c.year) c.month c.day k (omega (arith, count-2000)) in
    (k, rw (ey, em, ed) days, omega (arith, day_count-end))

-- The seconds of a day and a time of day.
pub at-day : (c : Civil) (k : ℕ) (y : ℤ) (m d : ℕ) (seconds : ℕ) → y ≡ pos c.year → m ≡ c.month
    → d ≡ c.day → days_from_civil y m d ≡ pos k
    → seconds ≡ ((k * 24 + c.hour) * 60 + c.minute) * 60 + c.second → IsAt c seconds
unfolding IsAt
at-day c k y m d seconds ey em ed days e =
    let days' : days_from_civil (pos c.year) c.month c.day ≡ pos k = rw (← ey, ← em, ← ed) days in
    subst (λ (z : ℤ). pos seconds ≡ z *ℤ pos 86_400 +ℤ pos (second_of_day c)) (sym days')
    (omega (arith, ints))

-- A date of a moment's day is that of its civil time.
pub same_civil : (n : ℕ) (y : ℤ) (m d : ℕ) → IsMoment n → IsCivilDate y m d
    → days_from_civil y m d ≡ pos (n / 86_400) → (y ≡ pos (civil_of n).year)
    × (m ≡ (civil_of n).month) × (d ≡ (civil_of n).day)
same_civil n y m d moment date days =
    let of = (civil_of-date n moment).date in
    same_date (pos (civil_of n).year) y (civil_of n).month (civil_of n).day m d of.date date
    (of.count ∙ sym (count-days_from_civil y m d (n / 86_400) days))

-- ---- as one function of the bytes

civil-tests : (c : Civil) → IsCivil c → is_civil c ≡ true
civil-tests c civil =
    let month = civil.date.1 in
    let day = civil.date.2 in
    and_from _ _
    (and_from _ _
    (and_from _ _
    (and_from _ _
    (and_from _ _ (and_from _ _ (le-leb 1 c.month month.0) (le-leb c.month 12 month.1))
    (le-leb 1 c.day day.0)) (le-leb c.day (days_in_month (pos c.year) c.month) day.1))
    (lt-ltb c.hour 24 civil.hour)) (lt-ltb c.minute 60 civil.minute))
    (lt-ltb c.second 60 civil.second)

tests-civil : (c : Civil) → c.year < 10000 → is_civil c ≡ true → IsCivil c
tests-civil c year e =
    let s = and_parts
    (nat_le 1 c.month && nat_le c.month 12 && nat_le 1 c.day
    && nat_le c.day (days_in_month (pos c.year) c.month) && nat_lt c.hour 24
    && nat_lt c.minute 60) (nat_lt c.second 60) e in
    let i = and_parts
    (nat_le 1 c.month && nat_le c.month 12 && nat_le 1 c.day
    && nat_le c.day (days_in_month (pos c.year) c.month) && nat_lt c.hour 24)
    (nat_lt c.minute 60) s.0 in
    let h = and_parts
    (nat_le 1 c.month && nat_le c.month 12 && nat_le 1 c.day
    && nat_le c.day (days_in_month (pos c.year) c.month)) (nat_lt c.hour 24) i.0 in
    let d = and_parts (nat_le 1 c.month && nat_le c.month 12 && nat_le 1 c.day)
    (nat_le c.day (days_in_month (pos c.year) c.month)) h.0 in
    let f = and_parts (nat_le 1 c.month && nat_le c.month 12) (nat_le 1 c.day) d.0 in
    let m = and_parts (nat_le 1 c.month) (nat_le c.month 12) f.0 in
    record {
      date = (
        (omega (arith, ints), omega (arith, ints)),
        (leb-true 1 c.month m.0, leb-true c.month 12 m.1),
        (leb-true 1 c.day f.1, leb-true c.day (days_in_month (pos c.year) c.month) d.1),
      );
      hour = ltb-true c.hour 24 h.1;
      minute = ltb-true c.minute 60 i.1;
      second = ltb-true c.second 60 s.1;
    }

-- A civil time from 1970 on is at its seconds.
at-seconds : (c : Civil) → IsCivil c → 1970 ≤ c.year → IsAt c (seconds_at c)
unfolding IsAt seconds_at
at-seconds c civil late =
    let from = count-from_year 1970 c.year c.month c.day civil.date late (omega arith) in
    let k = day_count (pos c.year) c.month c.day - day_count (pos 1970) 1 1 in
    let start = day_count-epoch in
    let days : days_from_civil (pos c.year) c.month c.day ≡ pos k =
    days_from_civil-count (pos c.year) c.month c.day k (omega arith) in
    subst (λ (z : ℤ). pos (k * 86_400 + second_of_day c)
    ≡ z *ℤ pos 86_400 +ℤ pos (second_of_day c)) (sym days) (seconds k (second_of_day c))
  where
    seconds : (k clock : ℕ) → pos (k * 86_400 + clock) ≡ pos k *ℤ pos 86_400 +ℤ pos clock
    seconds k clock = omega (arith, ints)

pub moment_in-again : (general : Bool) (n : ℕ) → IsMoment n
    → (general ≡ false → n < 2_524_608_000) → moment_in general (time_text general n) ≡ Some n
unfolding moment_in time_text
moment_in-again general n moment before =
    let has = moment-text general n moment before in
    let read = civil-again general (civil_of n) (shown general (civil_of n) has) in
    let late = moment-year n moment in
    let test = and_from (is_civil (civil_of n)) (nat_le 2000 (civil_of n).year)
    (civil-tests (civil_of n) has.civil) (le-leb 2000 (civil_of n).year late) in
    let same = one_moment (civil_of n) (seconds_at (civil_of n)) n
    (at-seconds (civil_of n) has.civil (omega arith)) (civil_of-at n moment) in
    rw (read, test) (ap (λ (m : ℕ). Some m) same)

pub moment_in-taken : (general : Bool) (bytes : List ℕ) (n : ℕ) → moment_in general bytes ≡ Some n
    → IsMoment n × (bytes ≡ time_text general n) × (general ≡ false → n < 2_524_608_000)
unfolding moment_in
moment_in-taken general bytes n e =
    let a = bind_some (civil_at general bytes)
    (λ c. cond (is_civil c && nat_le 2000 c.year) (Some (seconds_at c)) None) n e in
    let c = a.0 in
    let taken = civil-taken general bytes c a.1 in
    let g = guard_some (is_civil c && nat_le 2000 c.year) (seconds_at c) n a.2 in
    let parts = and_parts (is_civil c) (nat_le 2000 c.year) g.0 in
    let civil = tests-civil c taken.1.year parts.0 in
    let late = leb-true 2000 c.year parts.1 in
    let at : IsAt c n = subst (λ (m : ℕ). IsAt c m) g.1 (at-seconds c civil (omega arith)) in
    let found = found-text general bytes c n taken.0 civil at late in
    (found.0, found.1, found-years general c n taken.1 civil at late)

pub read-as : (general : Bool) (bytes : List ℕ) (r : Result ℕ TimeFault)
    → IfOk r (λ n. IsMoment n × (bytes ≡ time_text general n))
    → IfOk r (λ n. general ≡ false → n < 2_524_608_000)
    → ((n : ℕ) → IsMoment n → (general ≡ false → n < 2_524_608_000) → bytes ≡ time_text general n
    → r ≡ Ok n) → result_ok r ≡ moment_in general bytes
read-as general bytes (Ok n) found years only =
    sym (ap (moment_in general) found.1 ∙ moment_in-again general n found.0 (years))
read-as general bytes (Err d) found years only = by_moment (moment_in general bytes) refl
  where
    by_moment : (o : Option ℕ) → moment_in general bytes ≡ o → None ≡ moment_in general bytes
    by_moment None e = sym e
    by_moment (Some n) e =
        let taken = moment_in-taken general bytes n e in
        let no : Err d ≡ Ok n = only n taken.0 taken.2 taken.1 in
        absurd cc
