-- Numbers at the front of bytes.
use Rattle.std.proofs.Common.{◌≡◌, ℕ, ◌≤◌, ◌^◌, ◌<◌, List, ◌++◌, take, drop, length, lit≤, ap, sym, ◌∙◌, refl, arith}
use Rattle.std.specs.Int.{w32, w128, from_be_bytes, to_be_bytes}
use Rattle.std.proofs.lemmas.List.{take-take, length-take, drop-take}
use Rattle.std.proofs.lemmas.Nat.{from_be_bytes-to_be_bytes_4}
use Rattle.cmd_codec.specs.Spelling.{bytes_32, bytes_128}
use Rattle.std.specs.Prelude.{nat_le, ◌&&◌}
use Rattle.cmd_codec.specs.Fault.{front_32, front_128, is_name_length}
use Rattle.cmd_codec.proofs.Digits.{IsBytes, IsBytes-take, be_bytes_16, from_be_bytes-to_be_bytes_16}

pub front_32-take : (bytes : List ℕ) → front_32 (take 4 bytes) ≡ front_32 bytes
unfolding front_32
front_32-take bytes = ap (λ (b : List ℕ). from_be_bytes w32 b) (take-take 4 4 bytes (lit≤ tt))

pub front_128-take : (bytes : List ℕ) → front_128 (take 16 bytes) ≡ front_128 bytes
unfolding front_128
front_128-take bytes = ap (λ (b : List ℕ). from_be_bytes w128 b) (take-take 16 16 bytes (lit≤ tt))

-- what is written is read
pub front_32-bytes : (n : ℕ) (rest : List ℕ) → n < 2 ^ 32 → front_32 (bytes_32 n ++ rest) ≡ n
unfolding front_32 bytes_32
front_32-bytes n rest fits = from_be_bytes-to_be_bytes_4 n fits

pub front_128-bytes : (n : ℕ) (rest : List ℕ) → n < 2 ^ 128 → front_128 (bytes_128 n ++ rest) ≡ n
unfolding front_128 bytes_128
front_128-bytes n rest fits = from_be_bytes-to_be_bytes_16 n fits

pub length-bytes_32 : (n : ℕ) → length (bytes_32 n) ≡ 4
unfolding bytes_32
length-bytes_32 n = refl

pub length-bytes_128 : (n : ℕ) → length (bytes_128 n) ≡ 16
unfolding bytes_128
length-bytes_128 n = refl

-- what is read is written back
pub bytes_128-front : (bytes : List ℕ) (n : ℕ) → 16 ≤ length bytes → IsBytes bytes → n ≡ front_128 bytes → bytes_128 n ≡ take 16 bytes
unfolding front_128 bytes_128
bytes_128-front bytes n long fits is =
    ap (λ (m : ℕ). to_be_bytes w128 m) is ∙ be_bytes_16 (take 16 bytes) (omega (arith, length-take 16 bytes)) (IsBytes-take 16 bytes fits)

-- the test of a name's length is that of its number
pub length_tested : (left field : List ℕ) (n : ℕ) → field ≡ take 4 left → n ≡ front_32 field → is_name_length (take 4 left) ≡ (nat_le 1 n && nat_le n 64)
length_tested left field n taken is =
    let number : front_32 (take 4 left) ≡ n = sym (is ∙ ap front_32 taken) in
    ap (λ (m : ℕ). nat_le 1 m && nat_le m 64) number

pub length_is : (left field : List ℕ) (n : ℕ) → field ≡ take 4 left → n ≡ front_32 field → n ≡ front_32 left
length_is left field n taken is = is ∙ ap front_32 taken ∙ front_32-take left

pub length_bytes : (left field : List ℕ) (n : ℕ) → field ≡ take 4 left → bytes_32 n ≡ take 4 field → bytes_32 n ≡ take 4 left
length_bytes left field n taken is = is ∙ ap (λ (b : List ℕ). take 4 b) taken ∙ take-take 4 4 left (lit≤ tt)

pub front_128-within : (left : List ℕ) → front_128 (drop 16 (take 32 left)) ≡ front_128 (drop 16 left)
front_128-within left = ap front_128 (drop-take 16 16 left) ∙ front_128-take (drop 16 left)

pub front_32-alone : (n : ℕ) → n < 2 ^ 32 → front_32 (bytes_32 n) ≡ n
unfolding front_32 bytes_32
front_32-alone n fits = from_be_bytes-to_be_bytes_4 n fits

pub bytes_32-same : (n m : ℕ) → n < 2 ^ 32 → m < 2 ^ 32 → bytes_32 n ≡ bytes_32 m → n ≡ m
bytes_32-same n m n_fits m_fits e = sym (front_32-alone n n_fits) ∙ ap front_32 e ∙ front_32-alone m m_fits

pub bytes_128-same : (n m : ℕ) → n < 2 ^ 128 → m < 2 ^ 128 → bytes_128 n ≡ bytes_128 m → n ≡ m
unfolding front_128 bytes_128
bytes_128-same n m n_fits m_fits e = sym (from_be_bytes-to_be_bytes_16 n n_fits) ∙ ap (λ (b : List ℕ). from_be_bytes w128 b) e ∙ from_be_bytes-to_be_bytes_16 m m_fits
