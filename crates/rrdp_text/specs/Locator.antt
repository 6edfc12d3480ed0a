-- The locator of a trust anchor (RFC 8630 section 2.2).
use Rattle.std.specs.Prelude.{ℕ, List, [], ◌∷◌, ◌++◌}
use Rattle.std.specs.List.{flat_map}
use Rattle.base64.specs.GeneralPurpose.{encode_of}
use Rattle.base64.specs.Engines.{standard}
use Rattle.der.specs.Spelling.{spelled, bits_spelling}

-- rsaEncryption, 1.2.840.113549.1.1.1, with NULL (RFC 7935 section 3).
abbrev pub key_algorithm : List ℕ
key_algorithm = 0x30 ∷ 0x0d ∷ 0x06 ∷ 0x09 ∷ 0x2a ∷ 0x86 ∷ 0x48 ∷ 0x86 ∷ 0xf7 ∷ 0x0d ∷ 0x01 ∷ 0x01
    ∷ 0x01 ∷ 0x05 ∷ 0x00 ∷ []

-- The SubjectPublicKeyInfo of a key (RFC 5280 section 4.1.2.7).
unfoldable pub key_info : List ℕ → List ℕ
key_info key = spelled 0x30 (key_algorithm ++ bits_spelling 0 key)

-- A line for each URI.
unfoldable pub uri_lines : List (List ℕ) → List ℕ
uri_lines uris = flat_map (λ uri. uri ++ 10 ∷ []) uris

-- The lines of the URIs, an empty line, and the key on one line.
unfoldable pub locator_text : List (List ℕ) → List ℕ → List ℕ
locator_text uris key = uri_lines uris ++ 10 ∷ encode_of standard (key_info key) ++ 10 ∷ []
