-- The values in the texts of RRDP (RFC 8182 section 3), as they are spelled and read.
use Rattle.std.specs.Prelude.{ℕ, ◌^◌, Bool, ◌==◌, ◌&&◌, ◌||◌, not, nat_lt, nat_le, List, length, Option, Some, None, option_and_then, slice_index, if◌then◌else◌, decimal}
use Rattle.std.specs.Ordering.{nat_cmp, is_lt}
use Rattle.std.specs.Cmp.Lexicographic.{slice_cmp}
use Rattle.std.specs.Result.{result_ok}
use Rattle.std.specs.Str.{bytes_eq}
use Rattle.std.specs.Str.Parse.{digits_value}
use Rattle.base64.specs.GeneralPurpose.{encode_of, decode_of}
use Rattle.base64.specs.Engines.{standard}
use Rattle.hex.specs.Hex.{encode_lower, decode_of as hex_decode_of}
use Rattle.uuid.specs.Text.{hyphenated_text, lower, parsed}
use Rattle.rrdp_text.specs.Reading.{Field}

abbrev pub is_digit : ℕ → Bool
is_digit b = nat_le 48 b && nat_le b 57

abbrev pub is_letter : ℕ → Bool
is_letter b = (nat_le 65 b && nat_le b 90) || (nat_le 97 b && nat_le b 122)

-- A lower-case digit of sixteen.
abbrev pub is_hex : ℕ → Bool
is_hex b = is_digit b || (nat_le 97 b && nat_le b 102)

-- A digit of sixteen or `-`.
abbrev pub is_session_byte : ℕ → Bool
is_session_byte b = is_hex b || (b == 45)

-- Letters, digits and `-._~/:`, which need no escape in XML.
abbrev pub is_uri_byte : ℕ → Bool
is_uri_byte b = is_letter b || is_digit b || (b == 45) || (b == 46) || (b == 95) || (b == 126)
    || (b == 47) || (b == 58)

-- Letters, digits, `+`, `/` and `=`.
abbrev pub is_base64_byte : ℕ → Bool
is_base64_byte b = is_letter b || is_digit b || (b == 43) || (b == 47) || (b == 61)

-- The first stands before the second, byte by byte.
abbrev pub is_below : List ℕ → List ℕ → Bool
is_below a b = is_lt (slice_cmp nat_cmp a b)

-- The value, where it is spelled so and no other way.
abbrev pub spelled_so : {A : Type 0} → (A → List ℕ) → List ℕ → A → Option A
spelled_so spelled bytes a = if bytes_eq (spelled a) bytes then Some a else None

-- A URI above the one before it, and with at least one byte.
abbrev pub uri_above : List ℕ → Field (List ℕ)
uri_above previous = record {
  allowed = is_uri_byte;
  spelled = λ uri. uri;
  value = λ bytes. if is_below previous bytes then Some bytes else None;
}

-- A SHA-256 hash (RFC 8182 section 3.5.1.3): 64 lower-case digits.
abbrev pub hash : Field (List ℕ)
hash = record {
  allowed = is_hex;
  spelled = encode_lower;
  value = λ bytes.
      if length bytes == 64
      then option_and_then (spelled_so encode_lower bytes) (result_ok (hex_decode_of bytes))
      else None;
}

-- A serial number: decimal without leading zeros, below 2^64 (RFC 8182 section 3.5.1.3).
abbrev pub serial : Field ℕ
serial = record {
  allowed = is_digit;
  spelled = decimal;
  value = λ bytes.
      if not (length bytes == 0) && (not (slice_index bytes 0 == 48) || (length bytes == 1))
      && nat_lt (digits_value 10 bytes) (2 ^ 64)
      then Some (digits_value 10 bytes) else None;
}

-- A session identifier: a UUID, hyphenated and in lower case (RFC 8182 section 3.5.1.3).
abbrev pub session : Field (List ℕ)
session = record {
  allowed = is_session_byte;
  spelled = hyphenated_text lower;
  value = λ bytes. option_and_then (spelled_so (hyphenated_text lower) bytes) (parsed bytes);
}

-- The bytes of an object in Base64 (RFC 4648 section 4), with padding, without line breaks, and in
-- the one spelling that they have.
abbrev pub content : Field (List ℕ)
content = record {
  allowed = is_base64_byte;
  spelled = encode_of standard;
  value = λ bytes. result_ok (decode_of standard bytes);
}
