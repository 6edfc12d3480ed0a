-- Decimal numbers and AS numbers as texts.
use Rattle.std.specs.Prelude.{◌≡◌, ℕ, ◌-◌, ◌^◌, ◌<◌, min, ◌⊎◌, List, ◌++◌, length, take, drop, slice_index, map, codes}
use Rattle.std.specs.Char.{to_ascii_lowercase}
use Rattle.std.specs.Str.Parse.{IsNumeral, digits_value}

-- a number of any size in decimal: digits, no sign, and no zero in front of another digit
pub record IsDecimalText (text : List ℕ) (n : ℕ) : Type 0 where
  pub digits : IsNumeral 10 text
  pub no_zero_first : slice_index text 0 ≡ 48 → length text ≡ 1
  pub value : n ≡ digits_value 10 text

-- the number, or the greatest of 64 bits where it is greater
abbrev pub saturated : ℕ → ℕ
saturated n = min n (2 ^ 64 - 1)

-- a number of any size in decimal, told in 64 bits
pub record IsSaturatedText (text : List ℕ) (told : ℕ) : Type 0 where
  pub number : ℕ
  pub written : IsDecimalText text number
  pub value : told ≡ saturated number

-- `AS`, in any case of its letters
abbrev pub IsAsMark : List ℕ → Type 0
IsAsMark mark = map to_ascii_lowercase mark ≡ codes "as"

-- what follows the mark, or the whole text where it begins with none
abbrev pub FollowsMark : List ℕ → List ℕ → Type 0
FollowsMark text rest = (IsAsMark (take 2 text) × (rest ≡ drop 2 text))
    ⊎ ((¬ (IsAsMark (take 2 text))) × (rest ≡ text))

-- a decimal number, bare or after the mark
abbrev pub IsBareOrMarked : List ℕ → ℕ → Type 0
IsBareOrMarked text n = IsDecimalText text n
    ⊎ ((mark digits : List ℕ) × IsAsMark mark × (text ≡ mark ++ digits) × IsDecimalText digits n)

-- an AS number: of 32 bits (RFC 6793), and in decimal (RFC 5396)
pub record IsAsNumberText (text : List ℕ) (n : ℕ) : Type 0 where
  pub fits : n < 2 ^ 32
  pub spelled : IsBareOrMarked text n
