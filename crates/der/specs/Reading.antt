-- What stands at the front of bytes, or the first fault there (X.690 section 8.1).
use Rattle.std.specs.Prelude.{◌≡◌, ℕ, ◌-◌, ◌%◌, ◌^◌, Bool, false, ◌&&◌, ◌||◌, not, List, [], ◌∷◌, length, take, drop, Result, Ok, Err, nat_lt, ◌==◌, slice_index, if◌then◌else◌}
use Rattle.std.specs.Int.Digits.{number_from_digits}
use Rattle.der.specs.declared.fault.DerFault.{DerFault}
use Rattle.der.specs.declared.fault.DerFault.TheVariants.{Truncated, BadTag, BadLength, NotCanonical}

-- The number that bytes are in base 256.
abbrev pub number : List ℕ → ℕ
number bytes = number_from_digits 256 bytes

infixl 10 ◌>>=◌
abbrev pub ◌>>=◌ : {A B : Type 0} → Result A DerFault → (A → Result B DerFault) → Result B DerFault
(Ok x) >>= f = f x
(Err e) >>= f = Err e

-- What a call returned, seen by view, is what was read.
abbrev pub Gives : {X Y : Type 0} → (X → Y) → Result X DerFault → Result Y DerFault → Type 0
Gives view (Ok x) read = read ≡ Ok (view x)
Gives view (Err e) read = read ≡ Err e

-- The bytes of a length behind its first byte are too many: the first is zero, or one byte would do.
abbrev pub is_longer_than_needed : List ℕ → Bool
is_longer_than_needed bytes = slice_index bytes 0 == 0 || nat_lt (number bytes) 128

-- The length that is stated at the front, and the bytes behind it.
unfoldable pub length_at : ℕ → List ℕ → Result (ℕ × List ℕ) DerFault
length_at at [] = Err (Truncated at)
length_at at (first ∷ bytes) =
    if nat_lt first 128 then Ok (first, bytes)
    else if nat_lt (length bytes) (first - 128) then Err (Truncated at)
    else if first == 128 || nat_lt 132 first then Err (BadLength at)
    else if is_longer_than_needed (take (first - 128) bytes) then Err (NotCanonical at)
    else Ok (number (take (first - 128) bytes), drop (first - 128) bytes)

-- That many bytes of content, and the bytes behind them.
abbrev pub content_at : ℕ → ℕ → List ℕ → Result (List ℕ × List ℕ) DerFault
content_at at n bytes = if nat_lt (length bytes) n then Err (Truncated at) else Ok (take n bytes, drop n bytes)

-- The content of the element at the front, which starts at `at` and is to have that tag, and the bytes behind it.
unfoldable pub element_at : ℕ → ℕ → List ℕ → Result (List ℕ × List ℕ) DerFault
element_at at tag [] = Err (Truncated at)
element_at at tag (first ∷ bytes) =
    if first == tag then length_at at bytes >>= (λ n. content_at at n.0 n.1) else Err (BadTag at)

-- The content of an INTEGER isn't negative and has no needless byte.
abbrev pub is_shortest_unsigned : List ℕ → Bool
is_shortest_unsigned [] = false
is_shortest_unsigned (b ∷ []) = nat_lt b 128
is_shortest_unsigned (b ∷ c ∷ bytes) = nat_lt b 128 && not (b == 0 && nat_lt c 128)

abbrev pub number_of : ℕ → List ℕ → Result ℕ DerFault
number_of at content =
    if not (is_shortest_unsigned content) then Err (NotCanonical at)
    else if nat_lt (number content) (2 ^ 64) then Ok (number content)
    else Err (BadLength at)

-- The number at the front, and the bytes behind it.
unfoldable pub unsigned_at : ℕ → List ℕ → Result (ℕ × List ℕ) DerFault
unsigned_at at bytes = element_at at 2 bytes >>= (λ e. number_of at e.0 >>= (λ n. Ok (n, e.1)))

-- Whether the bytes, with so many unused bits, are a BIT STRING's.
abbrev pub are_bits : ℕ → List ℕ → Bool
are_bits unused [] = unused == 0
are_bits unused (b ∷ bytes) = nat_lt unused 8 && slice_index (b ∷ bytes) (length (b ∷ bytes) - 1) % 2 ^ unused == 0

abbrev pub bits_of : ℕ → List ℕ → Result (ℕ × List ℕ) DerFault
bits_of at [] = Err (NotCanonical at)
bits_of at (unused ∷ bytes) = if are_bits unused bytes then Ok (unused, bytes) else Err (NotCanonical at)

-- The unused bits and the bytes of the BIT STRING at the front, and the bytes behind it.
unfoldable pub bits_at : ℕ → List ℕ → Result ((ℕ × List ℕ) × List ℕ) DerFault
bits_at at bytes = element_at at 3 bytes >>= (λ e. bits_of at e.0 >>= (λ b. Ok (b, e.1)))
