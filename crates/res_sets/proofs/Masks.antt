-- Powers of two, masks and the ranges that are prefixes.
use Rattle.std.proofs.Common.{◌≡◌, ℕ, ◌+◌, ◌-◌, ◌*◌, ◌%◌, ◌^◌, ◌<◌, ◌≤◌, inl, inr, bit_and, refl, ap, sym, subst, ◌∙◌, arith}
use Rattle.std.proofs.lemmas.Bool.{cases_lt}
use Rattle.std.proofs.lemmas.Nat.{and_mask, pow-add, pow_below, leading_length}
use lib.Count.{count_leading_zeros}
pub use Rattle.res_sets.specs.laws.SetLaws.{room_above}
use Rattle.res_sets.specs.declared.numbers.Range.{Range}
use Rattle.res_sets.specs.Prefixes.{IsPrefixRange}

pub masked : (n host k : ℕ) → host + 1 ≡ 2 ^ k → bit_and n host ≡ n % 2 ^ k
masked n host k is =
    let same : host ≡ 2 ^ k - 1 = omega (arith, is) in
    ap (λ m. bit_and n m) same ∙ and_mask n k

pub IsPrefixRange-from : (bits len address host : ℕ) (range : Range) → range.first ≡ address → range.last ≡ address + host → len ≤ bits
    → host + 1 ≡ 2 ^ (bits - len) → bit_and address host ≡ 0 → IsPrefixRange bits len range
IsPrefixRange-from bits len address host range first last le host_is none = record {
  short = le;
  no_host_bits = ap (λ (m : ℕ). m % 2 ^ (bits - len)) first ∙ (sym (masked address host (bits - len) host_is) ∙ none);
  size = omega (arith, first, last, host_is);
}

-- how many bits the number needs
length_is : (host m k : ℕ) → host < 2 ^ m → 2 ^ m ≤ 2 * host + 1 → host + 1 ≡ 2 ^ k → m ≡ k
length_is host m k below above is =
    let more : 2 ^ (k + 1) ≡ 2 ^ k * 2 ^ 1 = pow-add 2 k 1 in
    let not_less : (m < k) → ⊥ = λ less. let p = pow_below m k less in omega (arith, p, below, is) in
    let not_more : (k + 1 ≤ m) → ⊥ = λ le. elim (cases_lt (k + 1) m) [ inl less ↦ (let p = pow_below (k + 1) m less in omega (arith, p, above, is, more)) | inr ge ↦ (let e : m ≡ k + 1 = omega (arith, le, ge) in let f : 2 ^ m ≡ 2 ^ (k + 1) = ap (λ (x : ℕ). 2 ^ x) e in omega (arith, f, above, is, more)) ] in
    elim (cases_lt m k) [ inl less ↦ absurd (not_less less) | inr ge ↦ elim (cases_lt m (k + 1)) [ inl less ↦ omega (arith, less, ge) | inr more_than ↦ absurd (not_more more_than) ] ]

-- the bits that the number of a range's other numbers needs
record Needs (bits m : ℕ) (range : Range) : Type 0 where
  below : range.last - range.first < 2 ^ m
  above : 2 ^ m ≤ 2 * (range.last - range.first) + 1

host_bits_of : (range : Range) → range.last < 2 ^ 128
    → (count_leading_zeros 128 (range.last - range.first) ≤ 128) × Needs 128 (128 - count_leading_zeros 128 (range.last - range.first)) range
host_bits_of range below =
    let found = leading_length 128 (range.last - range.first) (omega arith) in
    let m_is : 128 - count_leading_zeros 128 (range.last - range.first) ≡ found.0 = omega (arith, found.1) in (
      omega (arith, found.1),
      record {
        below = subst (λ (x : ℕ). range.last - range.first < 2 ^ x) (sym m_is) found.2;
        above = subst (λ (x : ℕ). 2 ^ x ≤ 2 * (range.last - range.first) + 1) (sym m_is) found.3;
      },
    )

-- a range whose other numbers are all of so many bits is no longer than all addresses
short_enough : (bits m : ℕ) (range : Range) → range.last < 2 ^ bits → (range.last - range.first) + 1 ≡ 2 ^ m → m ≤ bits
short_enough bits m range fits is =
    let ordered : range.first ≤ range.last = range.ordered in
    elim (cases_lt bits m) [ inl more ↦ (let p = pow_below bits m more in absurd (omega (arith, p, is, fits))) | inr le ↦ le ]

pub IsPrefixRange-found : (bits m : ℕ) (range : Range) → range.last < 2 ^ bits → (range.last - range.first) + 1 ≡ 2 ^ m
    → bit_and range.first (range.last - range.first) ≡ 0 → (m ≤ bits) × IsPrefixRange bits (bits - m) range
IsPrefixRange-found bits m range fits is none =
    let ordered : range.first ≤ range.last = range.ordered in
    let le = short_enough bits m range fits is in
    let same : bits - (bits - m) ≡ m = omega (arith, le) in (
      le,
      IsPrefixRange-from bits (bits - m) range.first (range.last - range.first) range refl (omega arith) (omega arith)
          (is ∙ sym (ap (λ (x : ℕ). 2 ^ x) same)) none,
    )

pub host_of_prefix : (bits len : ℕ) (range : Range) → range.last < 2 ^ 128 → IsPrefixRange bits len range
    → ((range.last - range.first) + 1 ≡ 2 ^ (128 - count_leading_zeros 128 (range.last - range.first))) × (bit_and range.first (range.last - range.first) ≡ 0)
host_of_prefix bits len range below prefix =
    let ordered : range.first ≤ range.last = range.ordered in
    let size = prefix.size in
    let is : (range.last - range.first) + 1 ≡ 2 ^ (bits - len) = omega (arith, size) in
    let needs = (host_bits_of range below).1 in
    let same = length_is (range.last - range.first) (128 - count_leading_zeros 128 (range.last - range.first)) (bits - len) needs.below needs.above is in
    (is ∙ sym (ap (λ (x : ℕ). 2 ^ x) same), masked range.first (range.last - range.first) (bits - len) is ∙ prefix.no_host_bits)
