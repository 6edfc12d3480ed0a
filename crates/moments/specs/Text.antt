-- UTCTime and GeneralizedTime in the forms of certificates (RFC 5280 section 4.1.2.5).
use Rattle.std.specs.Prelude.{◌≡◌, ℕ, ◌+◌, ◌/◌, ◌%◌, ◌<◌, ◌≤◌, Bool, true, false, nat_le, List, [], ◌∷◌, ◌++◌}
use Rattle.moments.specs.declared.civil.Civil.{Civil}
use Rattle.moments.specs.Civil.{IsCivil}
use Rattle.moments.specs.Days.{civil_of}

-- A number below 100 as two decimal digits.
abbrev pub two : ℕ → List ℕ
two n = (48 + n / 10) ∷ (48 + n % 10) ∷ []

-- MMDDHHMMSSZ (RFC 5280 sections 4.1.2.5.1 and 4.1.2.5.2)
unfoldable pub after_year : Civil → List ℕ
after_year c = two c.month ++ two c.day ++ two c.hour ++ two c.minute ++ two c.second ++ 90 ∷ []

-- GeneralizedTime, YYYYMMDDHHMMSSZ (RFC 5280 section 4.1.2.5.2), or UTCTime, YYMMDDHHMMSSZ
-- (section 4.1.2.5.1).
unfoldable pub civil_text : Bool → Civil → List ℕ
civil_text true c = two (c.year / 100) ++ two (c.year % 100) ++ after_year c
civil_text false c = two (c.year % 100) ++ after_year c

-- A civil time that has a text. UTCTime has the years from 1950 to 2049.
pub record HasText (general : Bool) (c : Civil) : Type 0 where
  pub civil : IsCivil c
  pub years : general ≡ false → (1950 ≤ c.year) × (c.year < 2050)

-- The spelling of a moment.
unfoldable pub time_text : Bool → ℕ → List ℕ
time_text general seconds = civil_text general (civil_of seconds)

-- A certificate has a UTCTime through 2049, and a GeneralizedTime from 2050-01-01T00:00:00Z on.
abbrev pub is_general : ℕ → Bool
is_general seconds = nat_le 2_524_608_000 seconds
