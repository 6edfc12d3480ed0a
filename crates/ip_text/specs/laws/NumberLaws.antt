-- A text writes one decimal number at most, and what is printed of a number is its text.
use Rattle.std.proofs.Common.{◌≡◌, ℕ, ◌^◌, ◌<◌, ◌≤◌, List, length, get_or, decimal, refl, sym, ap, ◌∙◌, arith, inl, inr}
use Rattle.std.proofs.lemmas.Bool.{cases_lt}
use Rattle.std.proofs.lemmas.Fmt.{decimal_is_IsNumeral, decimal_digit, first_decimal}
use Rattle.std.proofs.lemmas.Str.Parse.{digit_at}
use Rattle.ip_text.specs.Number.{IsDecimalText, IsSaturatedText, saturated}

-- a decimal text begins with a digit
pub record HasDigitFront (text : List ℕ) : Type 0 where
  pub nonempty : 0 < length text
  pub low : 48 ≤ get_or text 0 0
  pub high : get_or text 0 0 ≤ 57

pub front_text : (text : List ℕ) (n : ℕ) → IsDecimalText text n → HasDigitFront text
front_text text n is =
    let digit = digit_at text 0 is.digits.1 is.digits.0 in
    record { nonempty = is.digits.0; low = digit.0; high = digit.1 }

-- no text writes two numbers
pub one_decimal : (text : List ℕ) (m n : ℕ) → IsDecimalText text m → IsDecimalText text n → m ≡ n
one_decimal text m n a b = a.value ∙ sym b.value

-- what is printed of a number is its text
pub decimal_text : (n : ℕ) → n < 2 ^ 64 → IsDecimalText (decimal n) n
decimal_text n fits =
    let numeral = decimal_is_IsNumeral n fits in
    record {
      digits = numeral.0;
      no_zero_first = λ zero_first. elim (cases_lt n 10) [
        | inl one ↦ ap length (decimal_digit n one)
        | inr more ↦ absurd (omega (arith, first_decimal n (omega arith) fits))
      ];
      value = sym numeral.1;
    }

-- each decimal text tells a number
pub saturated_text : (text : List ℕ) (n : ℕ) → IsDecimalText text n → IsSaturatedText text (saturated n)
saturated_text text n is = record { number = n; written = is; value = refl }
