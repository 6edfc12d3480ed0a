-- The one spelling of an element by the distinguished encoding rules (X.690 sections 8, 10 and
-- 11).
use Rattle.std.specs.Prelude.{◌≡◌, ℕ, ◌+◌, ◌-◌, ◌%◌, ◌^◌, ◌<◌, List, [], ◌∷◌, ◌++◌, length, Bool, true, nat_lt, nat_le, slice_index, if◌then◌else◌}
use Rattle.std.specs.Int.Digits.{digits_of}

-- The bytes that state a length (8.1.3, 10.1): one byte below 128, else how many bytes follow, and
-- the length in base 256 without a leading zero.
unfoldable pub length_bytes : ℕ → List ℕ
length_bytes n = if nat_lt n 128 then n ∷ [] else (128 + length (digits_of 256 n)) ∷ digits_of 256 n

-- An element (8.1.1): its tag, the length of its content, and its content.
unfoldable pub spelled : ℕ → List ℕ → List ℕ
spelled tag content = tag ∷ length_bytes (length content) ++ content

-- Whether a zero has to stand in front: no byte stands there, or the first would make the number
-- negative (8.3.3).
abbrev pub needs_zero : List ℕ → Bool
needs_zero [] = true
needs_zero (b ∷ bytes) = nat_le 128 b

abbrev pub nonnegative : List ℕ → List ℕ
nonnegative bytes = if needs_zero bytes then 0 ∷ bytes else bytes

-- The content of an INTEGER that isn't negative: the fewest bytes (8.3.2).
unfoldable pub unsigned_content : ℕ → List ℕ
unsigned_content n = nonnegative (digits_of 256 n)

-- An INTEGER that isn't negative, tag 2.
unfoldable pub unsigned_spelling : ℕ → List ℕ
unsigned_spelling n = spelled 2 (unsigned_content n)

-- What a BIT STRING may be (8.6.2, 11.2.1): at most seven bits of the last byte are unused, none
-- where there is no byte, and each of them is zero.
pub record AreBits (unused : ℕ) (bytes : List ℕ) : Type 0 where
  pub few : unused < 8
  pub none : bytes ≡ [] → unused ≡ 0
  pub clear : slice_index bytes (length bytes - 1) % 2 ^ unused ≡ 0

-- A BIT STRING, tag 3: how many bits of the last byte are unused, and the bytes.
unfoldable pub bits_spelling : ℕ → List ℕ → List ℕ
bits_spelling unused bytes = spelled 3 (unused ∷ bytes)
