-- Big-endian bytes and their number.
use Rattle.std.specs.Prelude.{slice_index}
use Rattle.std.proofs.Common.{◌≡◌, ℕ, zero, suc, ◌+◌, ◌-◌, ◌*◌, ◌/◌, ◌%◌, ◌^◌, ◌<◌, ◌≤◌, List, [], ◌∷◌, length, get_or, take, refl, sym, ap, ◌∙◌, arith}
use Rattle.std.specs.Int.{byte_at, bytes_high_first}
use Rattle.std.specs.Int.Digits.{number_from_digits, number_from_digits_after, AllBelowBase}
use Rattle.std.proofs.Math.Nat.{div-div-eq-div-mul, pow-suc, mul-add-mod_self_right, mul-mod_left}
use Rattle.std.proofs.Math.Arith.{mod-mul}
use Rattle.std.proofs.lemmas.Nat.{pow-add, div-mul-add, mod-mul-add, mod_below, div-add-mod'}
use Rattle.std.proofs.lemmas.Int.Digits.{number_lt, number_more}
use Rattle.std.proofs.lemmas.List.{take_all}
use Rattle.der.specs.Spelling.{AreBits}
use Rattle.der.specs.Grammar.{AreBytes}

abbrev pub number : List ℕ → ℕ
number bytes = number_from_digits 256 bytes

pub below : (bytes : List ℕ) → AreBytes bytes → AllBelowBase 256 bytes
below [] fits = tt
below (b ∷ bytes) fits = (fits 0, below bytes (λ i. fits (suc i)))

-- what is spelled so are bytes
pub high-bytes : (k n : ℕ) → AreBytes (bytes_high_first k n)
high-bytes zero n i = omega arith
high-bytes (suc k) n zero = byte k
  where
    byte : (k : ℕ) → slice_index (bytes_high_first (suc k) n) 0 < 256
    byte zero = omega arith
    byte (suc k) = omega arith
high-bytes (suc k) n (suc i) = high-bytes k n i

-- the byte at a place, also the lowest
byte_is : (k n : ℕ) → byte_at k n ≡ n / 256 ^ k % 256
byte_is zero n = omega arith
byte_is (suc k) n = refl

-- a power of 256 and of 2 isn't 0
pow_some : (k : ℕ) → 0 < 256 ^ k
pow_some zero = omega arith
pow_some (suc k) = omega (arith, pow_some k, pow-suc 256 k)

pub two_some : (k : ℕ) → 0 < 2 ^ k
two_some zero = omega arith
two_some (suc k) = omega (arith, two_some k, pow-suc 2 k)

pub length-high_first : (k n : ℕ) → length (bytes_high_first k n) ≡ k
length-high_first zero n = refl
length-high_first (suc k) n = ap suc (length-high_first k n)

-- behind a number more bytes are lower digits
after_is : (n : ℕ) (ds : List ℕ)
    → number_from_digits_after 256 n ds ≡ n * 256 ^ length ds + number ds
after_is n [] = omega arith
after_is n (d ∷ ds) =
    let p : ℕ = 256 ^ length ds in
    let here : number_from_digits_after 256 (n * 256 + d) ds ≡ (n * 256 + d) * p + number ds =
    after_is (n * 256 + d) ds in
    let alone : number_from_digits_after 256 (0 * 256 + d) ds ≡ (0 * 256 + d) * p + number ds =
    after_is (0 * 256 + d) ds in
    let more : 256 ^ suc (length ds) ≡ p * 256 = pow-suc 256 (length ds) in
    here ∙ (rw (more, alone) (omega arith))

pub number-cons : (d : ℕ) (ds : List ℕ) → number (d ∷ ds) ≡ d * 256 ^ length ds + number ds
number-cons d ds = after_is (0 * 256 + d) ds
    ∙ ap (λ (x : ℕ). x * 256 ^ length ds + number ds) (omega arith)

mod_small : (n m : ℕ) → n < m → n % m ≡ n
mod_small n m lt = ap (λ (x : ℕ). x % m) (omega arith) ∙ mod-mul-add 0 m n lt

number-rest : (k n : ℕ) → number (bytes_high_first k n) ≡ n % 256 ^ k
number-rest zero n = omega arith
number-rest (suc k) n =
    let p : ℕ = 256 ^ k in
    let more : 256 ^ suc k ≡ 256 * p = pow-suc 256 k ∙ omega arith in
    let split : n % (256 * p) ≡ (n / p % 256) * p + n % p =
    mod-mul n {m = 256} {c = p} (omega arith) (pow_some k) in
    number-cons (byte_at k n) (bytes_high_first k n)
    ∙ (λ i. byte_is k n i * 256 ^ length-high_first k n i + number-rest k n i)
    ∙ sym split ∙ sym (ap (λ (x : ℕ). n % x) more)

-- The bytes of a number have its value, if they are enough.
pub number-high_first : (k n : ℕ) → n < 256 ^ k → number (bytes_high_first k n) ≡ n
number-high_first k n small = number-rest k n ∙ mod_small n (256 ^ k) small

-- Higher digits don't show in the low bytes.
high_first-low : (k q r : ℕ) → bytes_high_first k (q * 256 ^ k + r) ≡ bytes_high_first k r
high_first-low zero q r = refl
high_first-low (suc k) q r =
    let p : ℕ = 256 ^ k in
    let some : 0 < p = pow_some k in
    let more : q * 256 ^ suc k + r ≡ (q * 256) * p + r = ap (λ (x : ℕ). q * x + r) (pow-suc 256 k)
    ∙ omega arith in
    let here : byte_at k (q * 256 ^ suc k + r) ≡ byte_at k r =
    byte_is k (q * 256 ^ suc k + r) ∙ ap (λ (x : ℕ). x / p % 256) more ∙ shown q p r some
    ∙ sym (byte_is k r) in
    let rest : bytes_high_first k (q * 256 ^ suc k + r) ≡ bytes_high_first k r =
    ap (bytes_high_first k) more ∙ high_first-low k (q * 256) r in
    λ i. here i ∷ rest i
  where
    div_mod : (r p : ℕ) → r / p * p + r % p ≡ r
    div_mod r p = div-add-mod' r p

    mod_lt : (r p : ℕ) → 0 < p → r % p < p
    mod_lt r p some = mod_below r p some

    shown : (q p r : ℕ) → 0 < p → ((q * 256) * p + r) / p % 256 ≡ r / p % 256
    shown q p r some =
        let parts : (q * 256) * p + r ≡ (q * 256 + r / p) * p + r % p =
        omega (arith, div_mod r p) in
        ap (λ (x : ℕ). x / p % 256) parts
        ∙ ap (λ (x : ℕ). x % 256) (div-mul-add (q * 256 + r / p) p (r % p) (mod_lt r p some))
        ∙ mul-add-mod_self_right q 256 (r / p)

-- Bytes are those of their number.
pub high_first-number : (bytes : List ℕ) → AllBelowBase 256 bytes
    → bytes_high_first (length bytes) (number bytes) ≡ bytes
high_first-number [] fits = refl
high_first-number (d ∷ ds) fits =
    let k : ℕ = length ds in
    let p : ℕ = 256 ^ k in
    let low : number ds < p = number_lt 256 ds fits.1 in
    let whole : number (d ∷ ds) ≡ d * p + number ds = number-cons d ds in
    let here : byte_at k (number (d ∷ ds)) ≡ d =
    byte_is k (number (d ∷ ds)) ∙ ap (λ (x : ℕ). x / p % 256) whole
    ∙ ap (λ (x : ℕ). x % 256) (div-mul-add d p (number ds) low) ∙ mod_small d 256 fits.0 in
    let rest : bytes_high_first k (number (d ∷ ds)) ≡ ds =
    ap (bytes_high_first k) whole ∙ high_first-low k d (number ds) ∙ high_first-number ds fits.1 in
    λ i. here i ∷ rest i

-- The first bytes of a number are those of it without its low digits.
pub take-high_first : (k n x : ℕ) → k ≤ n
    → take k (bytes_high_first n x) ≡ bytes_high_first k (x / 256 ^ (n - k))
take-high_first zero n x le = refl
take-high_first (suc k) zero x le = absurd (omega arith)
take-high_first (suc k) (suc n) x le =
    let j : ℕ = n - k in
    let same : suc n - suc k ≡ j = omega arith in
    let sum : j + k ≡ n = omega arith in
    let powers : 256 ^ j * 256 ^ k ≡ 256 ^ n = sym (pow-add 256 j k)
    ∙ ap (λ (e : ℕ). 256 ^ e) sum in
    let here : byte_at n x ≡ byte_at k (x / 256 ^ j) =
    byte_is n x ∙ sym (ap (λ (p : ℕ). x / p % 256) powers)
    ∙ sym (ap (λ (y : ℕ). y % 256) (div-div-eq-div-mul x (256 ^ j) (256 ^ k)))
    ∙ sym (byte_is k (x / 256 ^ j)) in
    let rest : take k (bytes_high_first n x) ≡ bytes_high_first k (x / 256 ^ j) =
    take-high_first k n x (omega arith) in
    (λ i. here i ∷ rest i) ∙ sym (ap (λ (e : ℕ). bytes_high_first (suc k) (x / 256 ^ e)) same)

-- The last byte of a number.
last-high_first : (k n : ℕ) → get_or (bytes_high_first (suc k) n) k 0 ≡ n % 256
last-high_first zero n = refl
last-high_first (suc k) n = last-high_first k n

-- 256 as two powers
byte_split : (s : ℕ) → s < 8 → 2 ^ (8 - s) * 2 ^ s ≡ 256
byte_split s few = let sum : (8 - s) + s ≡ 8 = omega arith in sym (pow-add 2 (8 - s) s)
    ∙ ap (λ (e : ℕ). 2 ^ e) sum

-- A number that ends in zeros has a last byte that does.
byte_clear : (v s : ℕ) → s < 8 → v % 2 ^ s ≡ 0 → v % 256 % 2 ^ s ≡ 0
byte_clear v s few clear =
    let split : v % (2 ^ (8 - s) * 2 ^ s) ≡ (v / 2 ^ s % 2 ^ (8 - s)) * 2 ^ s + v % 2 ^ s =
    mod-mul v {m = 2 ^ (8 - s)} {c = 2 ^ s} (two_some (8 - s)) (two_some s) in
    let high : ℕ = v / 2 ^ s % 2 ^ (8 - s) in
    let whole : v % 256 ≡ high * 2 ^ s = sym (ap (λ (m : ℕ). v % m) (byte_split s few)) ∙ split
    ∙ omega (arith, clear) in
    ap (λ (x : ℕ). x % 2 ^ s) whole ∙ mul-mod_left high (2 ^ s)

pub bits-high_first : (k v s : ℕ) → s < 8 → (k ≡ 0 → s ≡ 0) → v % 2 ^ s ≡ 0
    → AreBits s (bytes_high_first k v)
bits-high_first zero v s few none clear = record {
  few = few;
  none = λ e. none refl;
  clear = zero_clear s;
}
  where
    zero_clear : (s : ℕ) → 0 % 2 ^ s ≡ 0
    zero_clear s = mod_small 0 (2 ^ s) (two_some s)
bits-high_first (suc k) v s few none clear =
    let len : length (bytes_high_first (suc k) v) - 1 ≡ k = omega (arith, length-high_first k v) in
    record {
      few = few;
      none = λ e. absurd cc;
      clear = ap (λ (j : ℕ). get_or (bytes_high_first (suc k) v) j 0 % 2 ^ s) len
          ∙ ap (λ (b : ℕ). b % 2 ^ s) (last-high_first k v) ∙ byte_clear v s few clear;
    }

-- The number of a bit string ends in zeros.
pub number-clear : (unused : ℕ) (bytes : List ℕ) → AreBits unused bytes
    → number bytes % 2 ^ unused ≡ 0
number-clear unused [] bits = bits.clear
number-clear unused (b ∷ ds) bits =
    let bytes : List ℕ = b ∷ ds in
    let i : ℕ = length bytes - 1 in
    let last : ℕ = get_or bytes i 0 in
    let front : ℕ = number (take i bytes) in
    let s : ℕ = unused in
    let all : take (i + 1) bytes ≡ bytes = take_all (i + 1) bytes (omega arith) in
    let whole : number bytes ≡ front * 256 + last = sym (ap number all)
    ∙ number_more 256 bytes i (omega arith) in
    let parts : front * 256 + last ≡ (front * 2 ^ (8 - s)) * 2 ^ s + last =
    ap (λ (x : ℕ). front * x + last) (sym (byte_split s bits.few)) ∙ omega arith in
    ap (λ (x : ℕ). x % 2 ^ s) (whole ∙ parts)
    ∙ mul-add-mod_self_right (front * 2 ^ (8 - s)) (2 ^ s) last ∙ bits.clear
