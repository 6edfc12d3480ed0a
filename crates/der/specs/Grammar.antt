-- What stands at the front of bytes, if anything does: the parts of a format's own reading (X.690
-- section 8.1).
use Rattle.std.specs.Prelude.{ℕ, ◌<◌, List, [], ◌∷◌, Option, Some, None, slice_index}
use Rattle.std.specs.Option.{option_map}
use Rattle.std.specs.Result.{result_ok}
use Rattle.der.specs.Spelling.{spelled}
use Rattle.der.specs.Reading.{element_at, unsigned_at, bits_at}

infixl 10 ◌>>=◌
abbrev pub ◌>>=◌ : {A B : Type 0} → Option A → (A → Option B) → Option B
(Some x) >>= f = f x
None >>= f = None

-- The content of the element of that tag at the front, and the bytes behind it.
unfoldable pub element_in : ℕ → List ℕ → Option (List ℕ × List ℕ)
element_in tag bytes = result_ok (element_at 0 tag bytes)

-- The same element with its header, and the bytes behind it.
abbrev pub whole_in : ℕ → List ℕ → Option (List ℕ × List ℕ)
whole_in tag bytes = option_map (λ e. (spelled tag e.0, e.1)) (element_in tag bytes)

-- The number at the front, and the bytes behind it.
unfoldable pub unsigned_in : List ℕ → Option (ℕ × List ℕ)
unsigned_in bytes = result_ok (unsigned_at 0 bytes)

-- The unused bits and the bytes of the BIT STRING at the front, and the bytes behind it.
unfoldable pub bits_in : List ℕ → Option ((ℕ × List ℕ) × List ℕ)
bits_in bytes = result_ok (bits_at 0 bytes)

-- The value, if no byte is left.
abbrev pub at_end : {A : Type 0} → A → List ℕ → Option A
at_end x [] = Some x
at_end x (b ∷ bytes) = None

-- Each place holds a byte.
abbrev pub AreBytes : List ℕ → Type 0
AreBytes bytes = (i : ℕ) → slice_index bytes i < 256
