-- Decimal numbers read digit by digit.
use Rattle.std.proofs.Common.{◌≡◌, ℕ, ◌+◌, ◌-◌, ◌*◌, ◌<◌, ◌≤◌, List, length, take, get_or, arith}
use Rattle.std.proofs.lemmas.Int.Digits.{digits_more, digits_value_more}
use Rattle.std.proofs.lemmas.Str.{digit_value_digit}
use Rattle.std.specs.Str.Parse.{AllDigits, digits_value}
use Rattle.ip_text.specs.Number.{saturated}

-- the first digits are read to their number
pub record HasRead (text : List ℕ) (read value : ℕ) : Type 0 where
  pub digits : AllDigits 10 (take read text)
  pub value_is : value ≡ saturated (digits_value 10 (take read text))

-- one digit more
pub read_more : (text : List ℕ) (read value : ℕ) → read < length text → (48 ≤ get_or text read 0) × (get_or text read 0 ≤ 57) → HasRead text read value
    → HasRead text (read + 1) (saturated (saturated (value * 10) + (get_or text read 0 - 48)))
read_more text read value within digit so_far =
    let is = digit_value_digit (get_or text read 0) digit in
    let more = digits_value_more 10 text read within in
    record {
      digits = digits_more 10 text read within so_far.digits (omega (arith, is));
      value_is = omega (arith, is, more, so_far.value_is);
    }
