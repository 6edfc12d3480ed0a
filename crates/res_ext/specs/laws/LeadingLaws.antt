-- Leading bits of addresses: read as spelled, and spelled as read.
use Rattle.std.proofs.Common.{◌≡◌, ℕ, zero, suc, ◌+◌, ◌-◌, ◌*◌, ◌/◌, ◌%◌, ◌^◌, ◌<◌, ◌≤◌, min, true, false, cond, eqb, List, [], ◌∷◌, length, take, refl, sym, ap, subst, ◌∙◌, arith, inl, inr}
use Rattle.std.specs.Int.{bytes_high_first}
use Rattle.std.proofs.Math.Nat.{mul-div_cancel, pow-suc, mul-mod_left}
use Rattle.std.proofs.lemmas.Bool.{cases_lt}
use Rattle.std.proofs.lemmas.Nat.{pow-add, shl_below, shr_below, div-mul-add, div-add-mod'}
use Rattle.std.proofs.lemmas.Int.Digits.{number_lt}
use lib.Count.{count_trailing_zeros}
use Rattle.der.specs.Spelling.{AreBits, bits_spelling}
use Rattle.der.specs.Grammar.{AreBytes}
use Rattle.res_sets.specs.declared.numbers.Range.{Range}
use Rattle.res_sets.specs.Prefixes.{IsPrefixRange}
use Rattle.res_sets.specs.laws.SetLaws.{room_above}
use Rattle.res_ext.specs.Prefixes.{IsAddressSize, octets, spare, leading_bytes, leading_spelling, kept}
use Rattle.res_ext.specs.laws.ByteLaws.{number, below, two_some, length-high_first, number-high_first, high_first-number, take-high_first, bits-high_first, number-clear}

-- bytes in bits
pub pow256 : (k : ℕ) → 256 ^ k ≡ 2 ^ (8 * k)
pow256 zero = refl
pow256 (suc k) =
    let more : 8 * suc k ≡ 8 * k + 8 = omega arith in
    pow-suc 256 k ∙ ap (λ (x : ℕ). x * 256) (pow256 k) ∙ sym (pow-add 2 (8 * k) 8)
    ∙ sym (ap (λ (e : ℕ). 2 ^ e) more)

-- What is left of an address without zeros at its end, and those zeros.
record Split (bits len n : ℕ) : Type 0 where
  high : ℕ
  whole : n ≡ high * 2 ^ (bits - len)
  is : n / 2 ^ (bits - len) ≡ high
  small : high < 2 ^ len

split_of : (bits len n : ℕ) → len ≤ bits → n < 2 ^ bits → n % 2 ^ (bits - len) ≡ 0
    → Split bits len n
split_of bits len n le fits clear =
    let p : ℕ = 2 ^ (bits - len) in
    let parts : n / p * p + n % p ≡ n = div-add-mod' n p in
    let sum : len + (bits - len) ≡ bits = omega arith in
    record {
      high = n / p;
      whole = omega (arith, parts, clear);
      is = refl;
      small = shr_below n len (bits - len) (subst (λ (e : ℕ). n < 2 ^ e) (sym sum) fits);
    }

-- a shift to the left by two amounts
shifted : (a i j k : ℕ) → i + j ≡ k → a * 2 ^ i * 2 ^ j ≡ a * 2 ^ k
shifted a i j k sum =
    let powers : 2 ^ i * 2 ^ j ≡ 2 ^ k = sym (pow-add 2 i j) ∙ ap (λ (e : ℕ). 2 ^ e) sum in
    regroup a (2 ^ i) (2 ^ j) ∙ ap (λ (x : ℕ). a * x) powers
  where
    regroup : (a b c : ℕ) → a * b * c ≡ a * (b * c)
    regroup a b c = omega arith

-- The bytes of a bit string are the leading bits of the address that begins with them.
pub record IsLeading (bits unused : ℕ) (bytes : List ℕ) (len first : ℕ) : Type 0 where
  pub fits : 8 * length bytes ≤ bits
  pub few : unused ≤ 8 * length bytes
  pub spare : unused ≡ spare len
  pub same : bytes ≡ leading_bytes bits len first
  pub clear : first % 2 ^ (bits - len) ≡ 0
  pub below : first < 2 ^ bits

pub enough : (unused : ℕ) (bytes : List ℕ) → AreBits unused bytes → unused ≤ 8 * length bytes
enough unused [] bits = let none = bits.none refl in omega (arith, none)
enough unused (b ∷ bytes) bits = let few = bits.few in omega (arith, few)

pub leading_found : (bits unused : ℕ) (bytes : List ℕ) → IsAddressSize bits → AreBits unused bytes
    → AreBytes bytes
    → 8 * length bytes - unused ≤ bits
    → IsLeading bits unused bytes (8 * length bytes - unused)
    (number bytes * 2 ^ (bits - 8 * length bytes))
leading_found bits unused bytes size are fits le =
    let k : ℕ = length bytes in
    let whole : bits % 8 ≡ 0 = size.whole in
    let few : unused < 8 = are.few in
    let some : unused ≤ 8 * k = enough unused bytes are in
    let in_range : 8 * k ≤ bits = omega (arith, le, few, whole, some) in
    let len : ℕ = 8 * k - unused in
    let e : ℕ = bits - 8 * k in
    let v : ℕ = number bytes in
    let q : ℕ = v / 2 ^ unused in
    let v-is : v ≡ q * 2 ^ unused =
    let parts : v / 2 ^ unused * 2 ^ unused + v % 2 ^ unused ≡ v = div-add-mod' v (2 ^ unused) in
    omega (arith, parts, number-clear unused bytes are) in
    let left : unused + e ≡ bits - len = omega (arith, in_range, some) in
    let first-is : v * 2 ^ e ≡ q * 2 ^ (bits - len) = ap (λ (x : ℕ). x * 2 ^ e) v-is
    ∙ shifted q unused e (bits - len) left in
    let count : octets len ≡ k = omega (arith, few, some) in
    let over : unused ≡ spare len = omega (arith, few, some, count) in
    let high : (v * 2 ^ e) / 2 ^ (bits - len) ≡ q = ap (λ (x : ℕ). x / 2 ^ (bits - len)) first-is
    ∙ mul-div_cancel q (two_some (bits - len)) in
    let back : (v * 2 ^ e) / 2 ^ (bits - len) * 2 ^ spare len ≡ v =
    (λ i. high i * 2 ^ sym over i) ∙ sym v-is in
    let sum : 8 * k + e ≡ bits = omega (arith, in_range) in
    let small : v < 2 ^ (8 * k) =
    subst (λ (x : ℕ). v < x) (pow256 k) (number_lt 256 bytes (below bytes fits)) in
    record {
      fits = in_range;
      few = some;
      spare = over;
      same = sym
          ((λ i. bytes_high_first (count i) (back i))
          ∙ high_first-number bytes (below bytes fits));
      clear = ap (λ (x : ℕ). x % 2 ^ (bits - len)) first-is ∙ mul-mod_left q (2 ^ (bits - len));
      below = subst (λ (x : ℕ). v * 2 ^ e < 2 ^ x) sum (shl_below v (8 * k) e small);
    }

-- What a bit string says that spells leading bits.
pub record Says (bits unused : ℕ) (bytes : List ℕ) (len n : ℕ) : Type 0 where
  pub few : length bytes ≤ 16
  pub len_is : 8 * length bytes - unused ≡ len
  pub address : number bytes * 2 ^ (bits - 8 * length bytes) ≡ n

pub leading_said : (bits unused : ℕ) (bytes : List ℕ) (len n : ℕ) → IsAddressSize bits
    → len ≤ bits → n < 2 ^ bits → n % 2 ^ (bits - len) ≡ 0
    → unused ≡ spare len → bytes ≡ leading_bytes bits len n → Says bits unused bytes len n
leading_said bits unused bytes len n size le fits clear over same =
    let short : bits ≤ 128 = size.short in
    let whole : bits % 8 ≡ 0 = size.whole in
    let k : ℕ = octets len in
    let s = split_of bits len n le fits clear in
    let v : ℕ = n / 2 ^ (bits - len) * 2 ^ spare len in
    let count : length bytes ≡ k = ap length same ∙ length-high_first k v in
    let in_range : 8 * k ≤ bits = omega (arith, le, whole) in
    let sum : len + spare len ≡ 8 * k = omega arith in
    let high-small : n / 2 ^ (bits - len) < 2 ^ len = subst (λ (x : ℕ). x < 2 ^ len) (sym s.is)
    s.small in
    let small : v < 256 ^ k =
    subst (λ (x : ℕ). v < x) (ap (λ (e : ℕ). 2 ^ e) sum ∙ sym (pow256 k))
    (shl_below (n / 2 ^ (bits - len)) len (spare len) high-small) in
    let value : number bytes ≡ v = ap number same ∙ number-high_first k v small in
    let left : spare len + (bits - 8 * k) ≡ bits - len = omega (arith, in_range) in
    let address : v * 2 ^ (bits - 8 * k) ≡ n =
    shifted (n / 2 ^ (bits - len)) (spare len) (bits - 8 * k) (bits - len) left
    ∙ ap (λ (x : ℕ). x * 2 ^ (bits - len)) s.is ∙ sym s.whole in
    record {
      few = omega (arith, count, le, short);
      len_is = omega (arith, count, over);
      address = (λ i. value i * 2 ^ (bits - 8 * count i)) ∙ address;
    }

-- What is written of leading bits.
pub leading_bits : (bits len n : ℕ) → len ≤ bits → n < 2 ^ bits → n % 2 ^ (bits - len) ≡ 0
    → AreBits (spare len) (leading_bytes bits len n)
leading_bits bits len n le fits clear =
    bits-high_first (octets len) (n / 2 ^ (bits - len) * 2 ^ spare len) (spare len) (omega arith)
    (λ e. omega (arith, e)) (mul-mod_left (n / 2 ^ (bits - len)) (2 ^ spare len))

pub leading_written : (bits len n : ℕ) → IsAddressSize bits → len ≤ bits → n < 2 ^ bits
    → n % 2 ^ (bits - len) ≡ 0
    → take (octets len) (bytes_high_first 16 (n * 2 ^ (128 - bits))) ≡ leading_bytes bits len n
leading_written bits len n size le fits clear =
    let short : bits ≤ 128 = size.short in
    let whole : bits % 8 ≡ 0 = size.whole in
    let k : ℕ = octets len in
    let few : k ≤ 16 = omega (arith, le, short) in
    let s = split_of bits len n le fits clear in
    let q : ℕ = n / 2 ^ (bits - len) in
    let n-is : n ≡ q * 2 ^ (bits - len) = s.whole
    ∙ ap (λ (x : ℕ). x * 2 ^ (bits - len)) (sym s.is) in
    let up : (bits - len) + (128 - bits) ≡ 128 - len = omega (arith, le, short) in
    let parts : spare len + 8 * (16 - k) ≡ 128 - len = omega (arith, le, short, few) in
    let top : n * 2 ^ (128 - bits) ≡ q * 2 ^ spare len * 2 ^ (8 * (16 - k)) =
    ap (λ (x : ℕ). x * 2 ^ (128 - bits)) n-is ∙ shifted q (bits - len) (128 - bits) (128 - len) up
    ∙ sym (shifted q (spare len) (8 * (16 - k)) (128 - len) parts) in
    let down : n * 2 ^ (128 - bits) / 256 ^ (16 - k) ≡ q * 2 ^ spare len =
    (λ i. top i / pow256 (16 - k) i)
    ∙ mul-div_cancel (q * 2 ^ spare len) (two_some (8 * (16 - k))) in
    take-high_first k 16 (n * 2 ^ (128 - bits)) few ∙ ap (bytes_high_first k) down

-- The leading bits don't see what stands behind them.
pub leading_of_last : (bits len last host : ℕ) → len ≤ bits → last < 2 ^ bits
    → host + 1 ≡ 2 ^ (bits - len) → (last + 1) % 2 ^ (bits - len) ≡ 0
    → ((last - host) % 2 ^ (bits - len) ≡ 0)
    × ((last - host) / 2 ^ (bits - len) ≡ last / 2 ^ (bits - len)) × (host ≤ last)
leading_of_last bits len last host le fits host-is set =
    let p : ℕ = 2 ^ (bits - len) in
    let some : 0 < p = two_some (bits - len) in
    let parts : (last + 1) / p * p + (last + 1) % p ≡ last + 1 = div-add-mod' (last + 1) p in
    let q : ℕ = (last + 1) / p in
    let multiple : last + 1 ≡ q * p = omega (arith, parts, set) in
    one_less q p last host some host-is multiple
  where
    one_less : (q p last host : ℕ) → 0 < p → host + 1 ≡ p → last + 1 ≡ q * p
        → ((last - host) % p ≡ 0) × ((last - host) / p ≡ last / p) × (host ≤ last)
    one_less zero p last host some host-is multiple = absurd (omega (arith, multiple))
    one_less (suc q) p last host some host-is multiple =
        let at_least : host ≤ last = omega (arith, multiple, host-is) in
        let down : last - host ≡ q * p = omega (arith, multiple, host-is) in
        let up : last ≡ q * p + host = omega (arith, multiple, host-is) in (
          ap (λ (x : ℕ). x % p) down ∙ mul-mod_left q p,
          ap (λ (x : ℕ). x / p) down ∙ mul-div_cancel q some
              ∙ sym (ap (λ (x : ℕ). x / p) up ∙ div-mul-add q p host (omega (arith, host-is))),
          at_least,
        )

-- how many trailing bits of a kind a number has, and what stays
pub kept-le : (bit bits n : ℕ) → kept bit bits n ≤ bits
kept-le bit zero n = omega arith
kept-le bit (suc bits) n =
    let shorter = kept-le bit bits (n / 2) in
    elim (eqb (n % 2) bit) as (λ b. cond b (kept bit bits (n / 2)) (suc bits) ≤ suc bits)
    [ true ↦ omega (arith, shorter) | false ↦ omega arith ]

-- one digit more
doubled : (m t n : ℕ) → m % 2 ^ t ≡ 0 → n ≡ 2 * m → n % 2 ^ suc t ≡ 0
doubled m t n clear is =
    let p : ℕ = 2 ^ t in
    let parts : m / p * p + m % p ≡ m = div-add-mod' m p in
    let more : 2 ^ suc t ≡ p * 2 = pow-suc 2 t in
    let whole : n ≡ m / p * (p * 2) = omega (arith, parts, clear, is) in
    (λ i. whole i % more i) ∙ mul-mod_left (m / p) (p * 2)

mod_one : (n : ℕ) → n % 1 ≡ 0
mod_one n = omega arith

pub kept-first : (bits n : ℕ) → n % 2 ^ (bits - kept 0 bits n) ≡ 0
kept-first zero n = mod_one n
kept-first (suc bits) n =
    elim (cases_lt (n % 2) 1) [
      | inl even ↦
          let zeros : n % 2 ≡ 0 = omega arith in
          let shorter : suc bits - kept 0 bits (n / 2) ≡ suc (bits - kept 0 bits (n / 2)) =
          omega (arith, kept-le 0 bits (n / 2)) in
          rw (zeros, shorter)
          (doubled (n / 2) (bits - kept 0 bits (n / 2)) n (kept-first bits (n / 2))
          (omega (arith, zeros)))
      | inr odd ↦
          let ones : n % 2 ≡ 1 = omega arith in
          let none : suc bits - suc bits ≡ 0 = omega arith in
          rw (ones, none) (mod_one n)
    ]

pub kept-last : (bits n : ℕ) → (n + 1) % 2 ^ (bits - kept 1 bits n) ≡ 0
kept-last zero n = mod_one (n + 1)
kept-last (suc bits) n =
    elim (cases_lt (n % 2) 1) [
      | inl even ↦
          let zeros : n % 2 ≡ 0 = omega arith in
          let none : suc bits - suc bits ≡ 0 = omega arith in
          rw (zeros, none) (mod_one (n + 1))
      | inr odd ↦
          let ones : n % 2 ≡ 1 = omega arith in
          let shorter : suc bits - kept 1 bits (n / 2) ≡ suc (bits - kept 1 bits (n / 2)) =
          omega (arith, kept-le 1 bits (n / 2)) in
          rw (ones, shorter)
          (doubled (n / 2 + 1) (bits - kept 1 bits (n / 2)) (n + 1) (kept-last bits (n / 2))
          (omega (arith, ones)))
    ]

pub zeros_kept : (bits width n : ℕ) → bits ≤ width
    → bits - min (count_trailing_zeros width n) bits ≡ kept 0 bits n
unfolding count_trailing_zeros
zeros_kept zero width n le = omega arith
zeros_kept (suc bits) zero n le = absurd (omega arith)
zeros_kept (suc bits) (suc width) n le =
    let rest = zeros_kept bits width (n / 2) (omega arith) in
    elim (cases_lt (n % 2) 1) [
      | inl even ↦ let zeros : n % 2 ≡ 0 = omega arith in rw zeros (omega (arith, rest))
      | inr odd ↦ let ones : n % 2 ≡ 1 = omega arith in rw ones (omega arith)
    ]

pub ones_kept : (bits width n : ℕ) → bits ≤ width → n < 2 ^ width
    → bits - min (count_trailing_zeros width (2 ^ width - 1 - n)) bits ≡ kept 1 bits n
unfolding count_trailing_zeros
ones_kept zero width n le fits = omega arith
ones_kept (suc bits) zero n le fits = absurd (omega arith)
ones_kept (suc bits) (suc width) n le fits =
    let p : ℕ = 2 ^ width in
    let more : 2 ^ suc width ≡ p * 2 = pow-suc 2 width in
    let half : (2 ^ suc width - 1 - n) / 2 ≡ p - 1 - n / 2 = omega (arith, more, fits) in
    let half_fits : n / 2 < p = omega (arith, more, fits) in
    let rest = ones_kept bits width (n / 2) (omega arith) half_fits in
    elim (cases_lt (n % 2) 1) [
      | inl even ↦
          let zeros : n % 2 ≡ 0 = omega arith in
          let other : (2 ^ suc width - 1 - n) % 2 ≡ 1 = omega (arith, more, fits, zeros) in
          rw (zeros, other) (omega arith)
      | inr odd ↦
          let ones : n % 2 ≡ 1 = omega arith in
          let other : (2 ^ suc width - 1 - n) % 2 ≡ 0 = omega (arith, more, fits, ones) in
          rw (ones, other, half) (omega (arith, rest))
    ]

-- the bytes of a bit string that spells leading bits are few
pub short_leading : (bits len n : ℕ) → IsAddressSize bits → len ≤ bits
    → length (leading_bytes bits len n) + 1 < 2 ^ 32
short_leading bits len n size le =
    let short : bits ≤ 128 = size.short in
    omega (arith, length-high_first (octets len) (n / 2 ^ (bits - len) * 2 ^ spare len), le, short)

-- A prefix that leading bits begin.
pub IsPrefixRange-leading : (bits unused : ℕ) (bytes : List ℕ) (len first host : ℕ)
    (range : Range) → len ≤ bits → IsLeading bits unused bytes len first
    → host + 1 ≡ 2 ^ (bits - len) → range.first ≡ first → range.last ≡ first + host
    → IsPrefixRange bits len range
IsPrefixRange-leading bits unused bytes len first host range le leading host-is f l = record {
  short = le;
  no_host_bits = ap (λ (x : ℕ). x % 2 ^ (bits - len)) f ∙ leading.clear;
  size = omega (arith, f, l, host-is);
}

-- There is room for the rest of a prefix.
pub room_for_host : (bits len first host : ℕ) → len ≤ bits → first % 2 ^ (bits - len) ≡ 0
    → first < 2 ^ bits → host + 1 ≡ 2 ^ (bits - len) → first + host < 2 ^ bits
room_for_host bits len first host le clear fits host-is =
    let room = room_above first (bits - len) bits (omega arith) fits clear in
    omega (arith, room, host-is)

-- The prefix whose last address is the last of a range.
pub record IsLastOf (bits last first : ℕ) : Type 0 where
  pub below : first < 2 ^ bits
  pub clear : first % 2 ^ (bits - kept 1 bits last) ≡ 0
  pub same : leading_spelling bits (kept 1 bits last) last ≡ leading_spelling bits
      (kept 1 bits last) first
  pub size : last + 1 ≡ first + 2 ^ (bits - kept 1 bits last)

pub first_for_last : (bits last : ℕ) → last < 2 ^ bits
    → IsLastOf bits last (last - (2 ^ (bits - kept 1 bits last) - 1))
unfolding leading_spelling
first_for_last bits last fits =
    let len : ℕ = kept 1 bits last in
    let p : ℕ = 2 ^ (bits - len) in
    let some : 0 < p = two_some (bits - len) in
    let host-is : (p - 1) + 1 ≡ p = omega (arith, some) in
    let split = leading_of_last bits len last (p - 1) (kept-le 1 bits last) fits host-is
    (kept-last bits last) in
    let at_least : p - 1 ≤ last = split.2 in
    record {
      below = omega (arith, fits);
      clear = split.0;
      same = sym
          (ap (λ (x : ℕ). bits_spelling (spare len)
          (bytes_high_first (octets len) (x * 2 ^ spare len))) split.1);
      size = omega (arith, at_least, some);
    }
