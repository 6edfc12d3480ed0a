-- Numbers of 16 bytes are read back.
use Rattle.std.proofs.Common.{◌≡◌, ℕ, ◌+◌, ◌*◌, ◌/◌, ◌%◌, ◌^◌, ◌<◌, List, [], ◌∷◌, ◌++◌, length, get_or, take, drop, refl, sym, ap, ◌∙◌, arith, lit<, inl, inr}
use Rattle.std.specs.Int.{w64, w128, from_be_bytes, to_be_bytes}
use Rattle.std.proofs.lemmas.List.{take-append-drop, get_or-drop, get_or-take, get_or_past, length-take, length-drop}
use Rattle.std.proofs.lemmas.Bool.{cases_lt}
use Rattle.std.proofs.lemmas.Nat.{be_bytes_8, from_be_bytes-to_be_bytes_8, div-mul-add, div-add-mod'}
use Rattle.std.proofs.Math.Nat as nat

-- a list of bytes
abbrev pub IsBytes : List ℕ → Type 0
IsBytes bytes = (i : ℕ) → get_or bytes i 0 < 256

pub IsBytes-drop : (n : ℕ) (bytes : List ℕ) → IsBytes bytes → IsBytes (drop n bytes)
IsBytes-drop n bytes h i = rw get_or-drop (h (n + i))

pub IsBytes-take : (n : ℕ) (bytes : List ℕ) → IsBytes bytes → IsBytes (take n bytes)
IsBytes-take n bytes h i =
    elim (cases_lt i n) [
      | inl lt ↦ rw (get_or-take n bytes i 0 lt) (h i)
      | inr le ↦ rw (get_or_past (take n bytes) i 0 (omega (arith, length-take n bytes))) (omega arith)
    ]

-- a byte of the high half
high_byte : (h l p : ℕ) → l < 2 ^ 64 → (h * 2 ^ 64 + l) / (2 ^ 64 * p) % 256 ≡ h / p % 256
high_byte h l p lt = ap (λ n. n % 256) (sym (nat.div-div-eq-div-mul (h * 2 ^ 64 + l) (2 ^ 64) p) ∙ ap (λ n. n / p) (div-mul-add h (2 ^ 64) l lt))

-- the byte at the foot of the high half
foot_byte : (h l : ℕ) → l < 2 ^ 64 → (h * 2 ^ 64 + l) / 2 ^ 64 % 256 ≡ h % 256
foot_byte h l lt = ap (λ n. n % 256) (div-mul-add h (2 ^ 64) l lt)

-- a number of two halves
pub joined : (h l : ℕ) → l < 2 ^ 64 → to_be_bytes w128 (h * 2 ^ 64 + l) ≡ to_be_bytes w64 h ++ to_be_bytes w64 l
joined h l lt =
    let h7 : (h * 2 ^ 64 + l) / (2 ^ 64 * 256 ^ 7) % 256 ≡ h / 256 ^ 7 % 256 = high_byte h l (256 ^ 7) lt in
    let h6 = high_byte h l (256 ^ 6) lt in
    let h5 = high_byte h l (256 ^ 5) lt in
    let h4 = high_byte h l (256 ^ 4) lt in
    let h3 = high_byte h l (256 ^ 3) lt in
    let h2 = high_byte h l (256 ^ 2) lt in
    let h1 = high_byte h l 256 lt in
    let h0 = foot_byte h l lt in
    let l7 : (h * 2 ^ 64 + l) / 256 ^ 7 % 256 ≡ l / 256 ^ 7 % 256 = omega arith in
    let l6 : (h * 2 ^ 64 + l) / 256 ^ 6 % 256 ≡ l / 256 ^ 6 % 256 = omega arith in
    let l5 : (h * 2 ^ 64 + l) / 256 ^ 5 % 256 ≡ l / 256 ^ 5 % 256 = omega arith in
    let l4 : (h * 2 ^ 64 + l) / 256 ^ 4 % 256 ≡ l / 256 ^ 4 % 256 = omega arith in
    let l3 : (h * 2 ^ 64 + l) / 256 ^ 3 % 256 ≡ l / 256 ^ 3 % 256 = omega arith in
    let l2 : (h * 2 ^ 64 + l) / 256 ^ 2 % 256 ≡ l / 256 ^ 2 % 256 = omega arith in
    let l1 : (h * 2 ^ 64 + l) / 256 % 256 ≡ l / 256 % 256 = omega arith in
    let l0 : (h * 2 ^ 64 + l) % 256 ≡ l % 256 = omega arith in
    λ i. h7 i ∷ h6 i ∷ h5 i ∷ h4 i ∷ h3 i ∷ h2 i ∷ h1 i ∷ h0 i ∷ l7 i ∷ l6 i ∷ l5 i ∷ l4 i ∷ l3 i ∷ l2 i ∷ l1 i ∷ l0 i ∷ []

-- the halves of 16 bytes
halved : (a b c d e f g h i j k l m n o p : ℕ) →
    from_be_bytes w128 (a ∷ b ∷ c ∷ d ∷ e ∷ f ∷ g ∷ h ∷ i ∷ j ∷ k ∷ l ∷ m ∷ n ∷ o ∷ p ∷ [])
    ≡ from_be_bytes w64 (a ∷ b ∷ c ∷ d ∷ e ∷ f ∷ g ∷ h ∷ []) * 2 ^ 64 + from_be_bytes w64 (i ∷ j ∷ k ∷ l ∷ m ∷ n ∷ o ∷ p ∷ [])
halved a b c d e f g h i j k l m n o p = omega arith

halves : (bytes : List ℕ) → from_be_bytes w128 bytes ≡ from_be_bytes w64 (take 8 bytes) * 2 ^ 64 + from_be_bytes w64 (drop 8 bytes)
halves bytes =
    let g = λ (k : ℕ). get_or bytes k 0 in
    let cells = halved (g 0) (g 1) (g 2) (g 3) (g 4) (g 5) (g 6) (g 7) (g 8) (g 9) (g 10) (g 11) (g 12) (g 13) (g 14) (g 15) in
    let t = λ (k : ℕ) (lt : k < 8). get_or-take 8 bytes k 0 lt in
    let d = λ (k : ℕ). get_or-drop 8 bytes k 0 in
    rw (t 0 (lit< tt), t 1 (lit< tt), t 2 (lit< tt), t 3 (lit< tt), t 4 (lit< tt), t 5 (lit< tt), t 6 (lit< tt), t 7 (lit< tt), d 0, d 1, d 2, d 3, d 4, d 5, d 6, d 7) cells

below_64 : (bytes : List ℕ) → IsBytes bytes → from_be_bytes w64 bytes < 2 ^ 64
below_64 bytes fits = omega (arith, fits 0, fits 1, fits 2, fits 3, fits 4, fits 5, fits 6, fits 7)

-- `to_be_bytes` of what `from_be_bytes` read gives 16 bytes back
pub be_bytes_16 : (bytes : List ℕ) → length bytes ≡ 16 → IsBytes bytes → to_be_bytes w128 (from_be_bytes w128 bytes) ≡ bytes
be_bytes_16 bytes len fits =
    let high : List ℕ = take 8 bytes in
    let low : List ℕ = drop 8 bytes in
    ap (λ (n : ℕ). to_be_bytes w128 n) (halves bytes)
    ∙ joined (from_be_bytes w64 high) (from_be_bytes w64 low) (below_64 low (IsBytes-drop 8 bytes fits))
    ∙ (λ i. be_bytes_8 high _ (omega (arith, length-take 8 bytes)) (IsBytes-take 8 bytes fits) refl i ++ be_bytes_8 low _ (omega (arith, length-drop 8 bytes)) (IsBytes-drop 8 bytes fits) refl i)
    ∙ take-append-drop 8 bytes

-- `from_be_bytes` of what `to_be_bytes` wrote gives a number of 128 bits back
pub from_be_bytes-to_be_bytes_16 : (n : ℕ) → n < 2 ^ 128 → from_be_bytes w128 (to_be_bytes w128 n) ≡ n
from_be_bytes-to_be_bytes_16 n lt =
    let h : ℕ = n / 2 ^ 64 in
    let l : ℕ = n % 2 ^ 64 in
    let split : h * 2 ^ 64 + l ≡ n = div-add-mod' n (2 ^ 64) in
    let h_fits : h < 2 ^ 64 = omega arith in
    let l_fits : l < 2 ^ 64 = omega arith in
    ap (λ (m : ℕ). from_be_bytes w128 (to_be_bytes w128 m)) (sym split)
    ∙ ap (λ (b : List ℕ). from_be_bytes w128 b) (joined h l l_fits)
    ∙ halves (to_be_bytes w64 h ++ to_be_bytes w64 l)
    ∙ (λ i. from_be_bytes-to_be_bytes_8 h h_fits i * 2 ^ 64 + from_be_bytes-to_be_bytes_8 l l_fits i)
    ∙ split
