-- The laws of keys: the test of a key's bytes is that of its one form.
use Rattle.std.proofs.Common.{◌≡◌, ℕ, true, ◌&&◌, leb, List, length, take, drop}
use Rattle.std.specs.Prelude.{slice_index}
use Rattle.std.specs.Str.{bytes_eq}
use Rattle.std.proofs.lemmas.Bool.{and_parts, and_from, le-leb, leb-true}
use Rattle.std.proofs.lemmas.Slice.Eq.{bytes_eq-Decides}
use Rattle.signer_api.specs.PublicKey.{IsPublicKey, key_header, key_exponent}
use Rattle.press_records.specs.Rows.{is_key}

pub is-key : (bytes : List ℕ) → IsPublicKey bytes → is_key bytes ≡ true
is-key bytes is =
    and_from (bytes_eq (take 9 bytes) key_header && leb 128 (slice_index bytes 9)) (bytes_eq (drop 265 bytes) key_exponent)
    (and_from (bytes_eq (take 9 bytes) key_header) (leb 128 (slice_index bytes 9)) ((bytes_eq-Decides (take 9 bytes) key_header).1 is.header)
    (le-leb 128 (slice_index bytes 9) is.modulus))
    ((bytes_eq-Decides (drop 265 bytes) key_exponent).1 is.exponent)

pub key-is : (bytes : List ℕ) → length bytes ≡ 270 → is_key bytes ≡ true → IsPublicKey bytes
key-is bytes size e =
    let p = and_parts (bytes_eq (take 9 bytes) key_header && leb 128 (slice_index bytes 9)) (bytes_eq (drop 265 bytes) key_exponent) e in
    let q = and_parts (bytes_eq (take 9 bytes) key_header) (leb 128 (slice_index bytes 9)) p.0 in
    record {
      whole = size;
      header = (bytes_eq-Decides (take 9 bytes) key_header).0 q.0;
      modulus = leb-true 128 (slice_index bytes 9) q.1;
      exponent = (bytes_eq-Decides (drop 265 bytes) key_exponent).0 p.1;
    }
