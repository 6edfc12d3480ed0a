-- Formats of single elements (X.690 section 8).
use Rattle.std.specs.Prelude.{◌≡◌, ℕ, ◌<◌, ◌^◌, Bool, true, false, ◌&&◌, ◌==◌, nat_lt, Option, Some, None, List, [], ◌∷◌, length, ⊤, if◌then◌else◌}
use Rattle.std.specs.Result.{result_ok}
use Rattle.der.specs.Tags as tag
use Rattle.der.specs.Spelling.{unsigned_content, AreBits}
use Rattle.der.specs.Grammar.{AreBytes}
use Rattle.der.specs.Reading.{number_of, bits_of}
use Rattle.der.specs.Form.{Whole, Front}
use Rattle.der.specs.Forms.{content, leaf, within, tested, tested_front}

-- The content of an INTEGER that isn't negative (X.690 section 8.3).
unfoldable pub number_in : List ℕ → Option ℕ
number_in bytes = result_ok (number_of 0 bytes)

abbrev pub number_content : Whole ℕ
number_content = leaf (λ n. n < 2 ^ 64) unsigned_content number_in

-- An INTEGER from 0 to 2 ^ 64 - 1 (X.690 section 8.3).
abbrev pub number : Front ℕ
number = within tag.integer number_content

-- An INTEGER from 0 to 2 ^ 32 - 1.
abbrev pub short_number : Front ℕ
short_number = tested_front number (λ n. nat_lt n (2 ^ 32))

-- The content of a BIT STRING (X.690 sections 8.6 and 11.2): how many bits of the last byte are
-- unused, and the bytes.
unfoldable pub bits_in : List ℕ → Option (ℕ × List ℕ)
bits_in bytes = result_ok (bits_of 0 bytes)

abbrev pub bits_content : Whole (ℕ × List ℕ)
bits_content = leaf (λ x. AreBits x.0 x.1 × AreBytes x.1) (λ x. x.0 ∷ x.1) bits_in

abbrev pub bits : Front (ℕ × List ℕ)
bits = within tag.bit_string bits_content

-- An OCTET STRING (X.690 section 8.7).
abbrev pub octets : Front (List ℕ)
octets = within tag.octet_string content

-- Just so many bytes.
abbrev pub fixed : ℕ → Whole (List ℕ)
fixed count = tested content (λ bytes. length bytes == count)

-- Whether two lists of bytes are the same.
abbrev pub are_same : List ℕ → List ℕ → Bool
are_same [] [] = true
are_same [] (b ∷ bs) = false
are_same (a ∷ more) [] = false
are_same (a ∷ more) (b ∷ bs) = a == b && are_same more bs

-- Just these bytes.
abbrev pub exactly : List ℕ → Whole (Unit {0})
exactly bytes = leaf (λ x. ⊤) (λ x. bytes) (λ other. if are_same other bytes then Some tt else None)

-- An element of that tag with just these bytes.
abbrev pub constant : ℕ → List ℕ → Front (Unit {0})
constant tag bytes = within tag (exactly bytes)

-- So many bytes, none of whose bits are unused, as the content of a BIT STRING (X.690 section
-- 8.6).
abbrev pub octets_in : ℕ → List ℕ → Option (List ℕ)
octets_in count [] = None
octets_in count (unused ∷ bytes) = if unused == 0 && length bytes == count then Some bytes else None

abbrev pub octet_bits : ℕ → Whole (List ℕ)
octet_bits count = leaf (λ bytes. length bytes ≡ count) (λ bytes. 0 ∷ bytes) (octets_in count)
