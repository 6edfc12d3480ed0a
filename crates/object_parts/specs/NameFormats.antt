-- The name that an identifier of a key has (RFC 6487 sections 4.4 and 4.5).
use Rattle.std.specs.Prelude.{◌≡◌, ℕ, List, length, Option, Some, None, if◌then◌else◌}
use Rattle.der.specs.Tags as tag
use Rattle.der.specs.Grammar.{AreBytes}
use Rattle.hex.specs.Hex.{encode_lower, decode_sized}
use Rattle.std.specs.Result.{result_ok}
use Rattle.der.specs.Form.{Whole, Front}
use Rattle.der.specs.Forms.{leaf, within, sole, preceded}
use Rattle.der.specs.Leaves.{are_same}
use Rattle.object_parts.specs.declared.identifiers.TheConstants.{COMMON_NAME}
use Rattle.object_parts.specs.FrameFormats.{identifier}

-- 20 bytes as hex digits in lower case, and the bytes of hex digits in either case.
unfoldable pub key_text : List ℕ → List ℕ
key_text bytes = encode_lower bytes

unfoldable pub key_in : List ℕ → Option (List ℕ)
key_in text = result_ok (decode_sized text 20)

-- The bytes that a text was of, if it is in lower case.
abbrev pub if_lower : List ℕ → Option (List ℕ) → Option (List ℕ)
if_lower text (Some bytes) = if are_same text (key_text bytes) then Some bytes else None
if_lower text None = None

-- 20 bytes as 40 hex digits in lower case.
abbrev pub key_digits : Whole (List ℕ)
key_digits = leaf (λ bytes. (length bytes ≡ 20) × AreBytes bytes) key_text
    (λ text. if_lower text (key_in text))

-- One common name.
unfoldable pub name : Front (List ℕ)
name =
    within tag.sequence (sole tag.set_of (sole tag.sequence
    (preceded (identifier COMMON_NAME) (sole tag.printable_string key_digits))))
