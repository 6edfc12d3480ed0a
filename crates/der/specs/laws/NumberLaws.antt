-- Numbers and their digits in base 256.
use Rattle.std.proofs.Common.{◌≡◌, ℕ, zero, suc, ◌+◌, ◌-◌, ◌*◌, ◌/◌, ◌%◌, ◌^◌, ◌<◌, ◌≤◌, List, [], ◌∷◌, ◌++◌, length, get_or, take, drop, Option, Some, None, refl, sym, ap, ◌∙◌, append_assoc, zero-add, arith, inl, inr}
use Rattle.std.specs.Prelude.{IsSome, SomeIff, slice_get}
use Rattle.std.specs.Int.{w64, to_be_bytes, byte_at, bytes_high_first}
use Rattle.std.specs.Int.Digits.{digits_of, number_from_digits_after, AllBelowBase}
use Rattle.std.proofs.lemmas.Bool.{cases_lt}
use Rattle.std.proofs.lemmas.List.{append-nil, get_or-drop, get_or-take, get_or_past, length-take}
use Rattle.std.proofs.lemmas.Nat.{from_be_bytes-to_be_bytes_8}
use Rattle.std.proofs.lemmas.Int.Digits.{digits_of_step}
use Rattle.der.specs.Reading.{number}
use Rattle.der.specs.inner.Digits.{without_zeros}
use Rattle.der.specs.Grammar.{AreBytes}

pub AreBytes-drop : (n : ℕ) (bytes : List ℕ) → AreBytes bytes → AreBytes (drop n bytes)
AreBytes-drop n bytes fits i = rw get_or-drop (fits (n + i))

pub AreBytes-take : (n : ℕ) (bytes : List ℕ) → AreBytes bytes → AreBytes (take n bytes)
AreBytes-take n bytes fits i =
    elim (cases_lt i n) [
      | inl lt ↦ rw (get_or-take n bytes i 0 lt) (fits i)
      | inr le ↦ rw (get_or_past (take n bytes) i 0 (omega (arith, length-take n bytes))) (omega arith)
    ]

pub AreBytes-rest : (b : ℕ) (bytes : List ℕ) → AreBytes (b ∷ bytes) → AreBytes bytes
AreBytes-rest b bytes fits i = fits (suc i)

pub below : (bytes : List ℕ) → AreBytes bytes → AllBelowBase 256 bytes
below [] fits = tt
below (b ∷ bytes) fits = (fits 0, below bytes (AreBytes-rest b bytes fits))

-- The digits of a number that goes on by more digits.
digits-after : (n : ℕ) (ds : List ℕ) → 0 < n → AllBelowBase 256 ds → digits_of 256 (number_from_digits_after 256 n ds) ≡ digits_of 256 n ++ ds
digits-after n [] pos fits = sym (append-nil (digits_of 256 n))
digits-after n (d ∷ ds) pos fits =
    let more : 0 < n * 256 + d = omega arith in
    let d-fits : d < 256 = fits.0 in
    let high : (n * 256 + d) / 256 ≡ n = omega arith in
    let low : (n * 256 + d) % 256 ≡ d = omega arith in
    let step : digits_of 256 (n * 256 + d) ≡ digits_of 256 n ++ (d ∷ []) =
    digits_of_step 256 (n * 256 + d) (omega arith) more ∙ ap (λ (q : ℕ). digits_of 256 q ++ ((n * 256 + d) % 256 ∷ [])) high ∙ ap (λ (r : ℕ). digits_of 256 n ++ (r ∷ [])) low in
    digits-after (n * 256 + d) ds more fits.1 ∙ ap (λ (front : List ℕ). front ++ ds) step ∙ append_assoc (digits_of 256 n) (d ∷ []) ds

digit : (b : ℕ) → 0 < b → b < 256 → digits_of 256 b ≡ b ∷ []
digit b pos fits =
    let high : b / 256 ≡ 0 = omega arith in
    let low : b % 256 ≡ b = omega arith in
    digits_of_step 256 b (omega arith) pos ∙ ap (λ (q : ℕ). digits_of 256 q ++ (b % 256 ∷ [])) high ∙ ap (λ (r : ℕ). r ∷ []) low

-- Bytes are the digits of their number, but for zeros in front.
pub digits-number : (bytes : List ℕ) → AllBelowBase 256 bytes → digits_of 256 (number bytes) ≡ without_zeros bytes
digits-number [] fits = refl
digits-number (zero ∷ bytes) fits = digits-number bytes fits.1
digits-number (suc b ∷ bytes) fits =
    ap (λ (n : ℕ). digits_of 256 (number_from_digits_after 256 n bytes)) (zero-add (suc b)) ∙ digits-after (suc b) bytes (omega arith) fits.1 ∙ ap (λ (front : List ℕ). front ++ bytes) (digit (suc b) (omega arith) fits.0)

-- Bytes with no zero in front are the digits of their number.
pub without_zeros-same : (bytes : List ℕ) → 0 < get_or bytes 0 0 → without_zeros bytes ≡ bytes
without_zeros-same [] pos = refl
without_zeros-same (zero ∷ bytes) pos = absurd (omega arith)
without_zeros-same (suc b ∷ bytes) pos = refl

pub length-without_zeros : (bytes : List ℕ) → length (without_zeros bytes) ≤ length bytes
length-without_zeros [] = omega arith
length-without_zeros (zero ∷ bytes) = omega (arith, length-without_zeros bytes)
length-without_zeros (suc b ∷ bytes) = omega arith

pub number-be_bytes : (n : ℕ) → n < 2 ^ 64 → number (to_be_bytes w64 n) ≡ n
number-be_bytes n lt = omega (arith, from_be_bytes-to_be_bytes_8 n lt)

byte-fits : (k n : ℕ) → byte_at k n < 256
byte-fits zero n = omega arith
byte-fits (suc k) n = let q = n / 256 ^ suc k in omega arith

high_first-fits : (k n : ℕ) → AllBelowBase 256 (bytes_high_first k n)
high_first-fits zero n = tt
high_first-fits (suc k) n = (byte-fits k n, high_first-fits k n)

-- The bytes of a number are its digits behind zeros.
pub digits-be_bytes : (n : ℕ) → n < 2 ^ 64 → without_zeros (to_be_bytes w64 n) ≡ digits_of 256 n
digits-be_bytes n lt = sym (digits-number (to_be_bytes w64 n) (high_first-fits 8 n)) ∙ ap (digits_of 256) (number-be_bytes n lt)

-- The last zero in front, and what follows it.
pub one_zero : (bytes : List ℕ) → drop (suc (length bytes) - length (without_zeros bytes) - 1) (0 ∷ bytes) ≡ 0 ∷ without_zeros bytes
one_zero [] = refl
one_zero (zero ∷ bytes) =
    let count : suc (suc (length bytes)) - length (without_zeros bytes) - 1 ≡ suc (suc (length bytes) - length (without_zeros bytes) - 1) =
    omega (arith, length-without_zeros bytes) in
    rw count (one_zero bytes)
one_zero (suc b ∷ bytes) =
    let count : suc (suc (length bytes)) - suc (length bytes) - 1 ≡ 0 = omega arith in
    rw count refl

-- A number that is there where it fits, and fits.
pub some_number : (r : Option ℕ) (P : Type 0) (n : ℕ) → SomeIff r P n → P → IsSome r
some_number None P n h fits = absurd (h fits)
some_number (Some m) P n h fits = refl

-- The fewest bytes for a number that bytes behind a zero are: they without zeros in front, or one zero more.
pub nonnegative-drop : (bytes : List ℕ) → slice_get bytes 0 ≡ Some 0 → drop (length bytes - length (without_zeros bytes) - 1) bytes ≡ 0 ∷ without_zeros bytes
nonnegative-drop [] e = absurd cc
nonnegative-drop (zero ∷ bytes) e = one_zero bytes
nonnegative-drop (suc b ∷ bytes) e = absurd (omega (arith, some_same (suc b) 0 e))
  where
    some_same : (x y : ℕ) → Some x ≡ Some y → x ≡ y
    some_same x y e = cc

pub length-without_zeros-lt : (bytes : List ℕ) → slice_get bytes 0 ≡ Some 0 → length (without_zeros bytes) < length bytes
length-without_zeros-lt [] e = absurd cc
length-without_zeros-lt (zero ∷ bytes) e = omega (arith, length-without_zeros bytes)
length-without_zeros-lt (suc b ∷ bytes) e = absurd (omega (arith, some_same (suc b) 0 e))
  where
    some_same : (x y : ℕ) → Some x ≡ Some y → x ≡ y
    some_same x y e = cc
