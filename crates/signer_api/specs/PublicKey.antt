-- The public keys in use: RSA, 2,048 bits, exponent 65,537 (RFC 7935 section 3).
use Rattle.std.specs.Prelude.{◌≡◌, ◌≤◌, List, [], ◌∷◌, ℕ, length, take, drop, slice_index}

-- What stands before the modulus: a SEQUENCE of 266 bytes, then an INTEGER of 257 bytes, of which
-- the first is zero, since the modulus is positive (RFC 8017 appendix A.1.1).
abbrev pub key_header : List ℕ
key_header = 0x30 ∷ 0x82 ∷ 0x01 ∷ 0x0a ∷ 0x02 ∷ 0x82 ∷ 0x01 ∷ 0x01 ∷ 0x00 ∷ []

-- The INTEGER 65,537.
abbrev pub key_exponent : List ℕ
key_exponent = 0x02 ∷ 0x03 ∷ 0x01 ∷ 0x00 ∷ 0x01 ∷ []

-- Header, modulus and exponent (RFC 7935 section 3.1). The modulus has all its 2,048 bits.
pub record IsPublicKey (bytes : List ℕ) : Type 0 where
  pub whole : length bytes ≡ 270
  pub header : take 9 bytes ≡ key_header
  pub modulus : 128 ≤ slice_index bytes 9
  pub exponent : drop 265 bytes ≡ key_exponent
