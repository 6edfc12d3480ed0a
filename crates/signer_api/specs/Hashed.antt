-- Keys and signatures that are made of hashes. They have the form of RSA's and not its strength.
-- What RSA keys are, RFC 7935 section 3 says.
use Rattle.std.specs.Prelude.{ℕ, zero, suc, List, [], ◌∷◌, ◌++◌, bit_or, slice_index, slice_set}
use Rattle.std.specs.Int.{w64, to_be_bytes}
use Rattle.sha2.specs.Sha256.{sha256}
use Rattle.signer_api.specs.PublicKey.{key_header, key_exponent}

-- The first n blocks of a seed: block i is the SHA-256 of the seed and of i in one byte.
unfoldable pub blocks : List ℕ → ℕ → List ℕ
blocks seed zero = []
blocks seed (suc n) = blocks seed n ++ sha256 (seed ++ n ∷ [])

-- The first bit and the last bit are set: a modulus has its full length and is odd.
abbrev pub with_end_bits : List ℕ → List ℕ
with_end_bits bytes =
    let top = slice_set bytes 0 (bit_or (slice_index bytes 0) 0x80) in
    slice_set top 255 (bit_or (slice_index top 255) 0x01)

-- The key of that number, from the start bytes. The number stands in 8 bytes.
abbrev pub hashed_key : List ℕ → ℕ → List ℕ
hashed_key start number =
    key_header ++ with_end_bits (blocks (start ++ to_be_bytes w64 number) 8) ++ key_exponent

-- A key's signature of a digest.
abbrev pub hashed_signature : List ℕ → List ℕ → List ℕ
hashed_signature key digest = blocks (key ++ digest) 8
