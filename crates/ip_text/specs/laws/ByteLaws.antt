-- Sixteen bytes and their number.
use Rattle.std.proofs.Common.{◌≡◌, ℕ, zero, suc, lit<, ◌+◌, ◌*◌, ◌/◌, ◌%◌, ◌^◌, ◌<◌, List, [], ◌∷◌, length, get_or, refl, arith}
use Rattle.std.proofs.Math.Nat.{div-div-eq-div-mul}
use Rattle.std.proofs.lemmas.Nat.{div-mul-add}
use Rattle.std.specs.Int.{w128, to_be_bytes, from_be_bytes}
use Rattle.std.specs.List.{AllByRecursion}
use Rattle.std.specs.Net.Addr.{octets_of, segments_of}

-- two bytes out of a segment
high_byte : (a b : ℕ) → b < 256 → (a * 256 + b) / 256 ≡ a
high_byte a b h = div-mul-add a 256 b h

low_byte : (a b : ℕ) → b < 256 → (a * 256 + b) % 256 ≡ b
low_byte a b h = omega arith

abbrev byte : ℕ → ℕ → ℕ
byte n p = n / p % 256

byte_and_rest : (n p : ℕ) → n / p ≡ n / p % 256 + n / (p * 256) * 256
byte_and_rest n p = omega (arith, div-div-eq-div-mul n p 256)

joined : (a b c d e f g h n q1 q2 q3 q4 q5 q6 q7 q8 : ℕ) → n ≡ a + q1 * 256 → q1 ≡ b + q2 * 256 → q2 ≡ c + q3 * 256 → q3 ≡ d + q4 * 256
    → q4 ≡ e + q5 * 256 → q5 ≡ f + q6 * 256 → q6 ≡ g + q7 * 256 → q7 ≡ h + q8 * 256
    → a + b * 256 + c * 256 ^ 2 + d * 256 ^ 3 + e * 256 ^ 4 + f * 256 ^ 5 + g * 256 ^ 6 + h * 256 ^ 7 + q8 * 256 ^ 8 ≡ n
joined a b c d e f g h n q1 q2 q3 q4 q5 q6 q7 q8 e0 e1 e2 e3 e4 e5 e6 e7 = omega arith

halves : (b0 b1 b2 b3 b4 b5 b6 b7 b8 b9 b10 b11 b12 b13 b14 b15 n m q : ℕ) → b0 + b1 * 256 + b2 * 256 ^ 2 + b3 * 256 ^ 3 + b4 * 256 ^ 4 + b5 * 256 ^ 5 + b6 * 256 ^ 6 + b7 * 256 ^ 7 + m * 256 ^ 8 ≡ n → b8 + b9 * 256 + b10 * 256 ^ 2 + b11 * 256 ^ 3 + b12 * 256 ^ 4 + b13 * 256 ^ 5 + b14 * 256 ^ 6 + b15 * 256 ^ 7 + q * 256 ^ 8 ≡ m → q ≡ 0
    → b15 * 256 ^ 15 + b14 * 256 ^ 14 + b13 * 256 ^ 13 + b12 * 256 ^ 12 + b11 * 256 ^ 11 + b10 * 256 ^ 10 + b9 * 256 ^ 9 + b8 * 256 ^ 8 + b7 * 256 ^ 7 + b6 * 256 ^ 6 + b5 * 256 ^ 5 + b4 * 256 ^ 4 + b3 * 256 ^ 3 + b2 * 256 ^ 2 + b1 * 256 + b0 ≡ n
halves b0 b1 b2 b3 b4 b5 b6 b7 b8 b9 b10 b11 b12 b13 b14 b15 n m q low high none = omega arith

pub from_be_bytes-to_be_bytes_16 : (n : ℕ) → n < 2 ^ 128 → from_be_bytes w128 (to_be_bytes w128 n) ≡ n
from_be_bytes-to_be_bytes_16 n fits =
    let low = joined (n % 256) (n / 256 % 256) (n / 256 ^ 2 % 256) (n / 256 ^ 3 % 256) (n / 256 ^ 4 % 256) (n / 256 ^ 5 % 256) (n / 256 ^ 6 % 256) (n / 256 ^ 7 % 256) n (n / 256) (n / 256 ^ 2) (n / 256 ^ 3) (n / 256 ^ 4) (n / 256 ^ 5) (n / 256 ^ 6) (n / 256 ^ 7) (n / 256 ^ 8) (omega arith) (byte_and_rest n 256) (byte_and_rest n (256 ^ 2)) (byte_and_rest n (256 ^ 3)) (byte_and_rest n (256 ^ 4)) (byte_and_rest n (256 ^ 5)) (byte_and_rest n (256 ^ 6)) (byte_and_rest n (256 ^ 7)) in
    let high = joined (n / 256 ^ 8 % 256) (n / 256 ^ 9 % 256) (n / 256 ^ 10 % 256) (n / 256 ^ 11 % 256) (n / 256 ^ 12 % 256) (n / 256 ^ 13 % 256) (n / 256 ^ 14 % 256) (n / 256 ^ 15 % 256) (n / 256 ^ 8) (n / 256 ^ 9) (n / 256 ^ 10) (n / 256 ^ 11) (n / 256 ^ 12) (n / 256 ^ 13) (n / 256 ^ 14) (n / 256 ^ 15) (n / 256 ^ 16) (byte_and_rest n (256 ^ 8)) (byte_and_rest n (256 ^ 9)) (byte_and_rest n (256 ^ 10)) (byte_and_rest n (256 ^ 11)) (byte_and_rest n (256 ^ 12)) (byte_and_rest n (256 ^ 13)) (byte_and_rest n (256 ^ 14)) (byte_and_rest n (256 ^ 15)) in
    let none : n / 256 ^ 16 ≡ 0 = omega arith in
    halves (n % 256) (n / 256 % 256) (n / 256 ^ 2 % 256) (n / 256 ^ 3 % 256) (n / 256 ^ 4 % 256) (n / 256 ^ 5 % 256) (n / 256 ^ 6 % 256) (n / 256 ^ 7 % 256) (n / 256 ^ 8 % 256) (n / 256 ^ 9 % 256) (n / 256 ^ 10 % 256) (n / 256 ^ 11 % 256) (n / 256 ^ 12 % 256) (n / 256 ^ 13 % 256) (n / 256 ^ 14 % 256) (n / 256 ^ 15 % 256) n (n / 256 ^ 8) (n / 256 ^ 16) low high none

-- each is a byte
abbrev pub AreBytes : List ℕ → Type 0
AreBytes bs = AllByRecursion (λ b. b < 256) bs

pub bytes_of_octets : (bs : List ℕ) (k : ℕ) → length bs ≡ 2 * k → AreBytes bs → octets_of (segments_of bs) ≡ bs
bytes_of_octets [] k even h = refl
bytes_of_octets (a ∷ []) k even h = absurd (omega arith)
bytes_of_octets (a ∷ b ∷ bs) zero even h = absurd (omega arith)
bytes_of_octets (a ∷ b ∷ bs) (suc k) even h =
    let high = high_byte a b h.1.0 in
    let low = low_byte a b h.1.0 in
    let rest = bytes_of_octets bs k (omega arith) h.1.1 in
    λ i. high i ∷ low i ∷ rest i

pub segments_fit : (bs : List ℕ) → AreBytes bs → (k : ℕ) → get_or (segments_of bs) k 0 < 2 ^ 16
segments_fit [] h k = lit< tt
segments_fit (a ∷ []) h k = lit< tt
segments_fit (a ∷ b ∷ bs) h zero = let high = h.0 in let low = h.1.0 in omega arith
segments_fit (a ∷ b ∷ bs) h (suc k) = segments_fit bs h.1.1 k

small : (n p : ℕ) → n / p % 256 < 256
small n p = omega arith

pub are_bytes : (n : ℕ) → AreBytes (to_be_bytes w128 n)
are_bytes n = (small n (256 ^ 15), (small n (256 ^ 14), (small n (256 ^ 13), (small n (256 ^ 12), (small n (256 ^ 11), (small n (256 ^ 10), (small n (256 ^ 9), (small n (256 ^ 8), (small n (256 ^ 7), (small n (256 ^ 6), (small n (256 ^ 5), (small n (256 ^ 4), (small n (256 ^ 3), (small n (256 ^ 2), (small n 256, ((omega arith), tt))))))))))))))))
