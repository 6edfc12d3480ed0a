-- The addresses from a multiple of a size to below the next one.
use Rattle.std.proofs.Common.{◌≡◌, ℕ, ◌+◌, ◌-◌, ◌*◌, ◌/◌, ◌%◌, ◌^◌, ◌<◌, ◌≤◌, refl, sym, ap, ◌∙◌, arith}
use Rattle.std.proofs.lemmas.Nat.{pow-add, pow_pos, div-add-mod', div-mul-add}
use Rattle.std.proofs.Math.Nat.{mul-le-mul_right, div-lt_iff_lt-mul}

-- A multiple of s, below a multiple t * s, leaves room for s more.
room : (s t q a : ℕ) → 0 < s → q ≡ a / s → a ≡ q * s → a < t * s → a + s ≤ t * s
room s t q a pos is whole below =
    let fewer : a / s < t = (div-lt_iff_lt-mul pos).1 below in
    let next : q + 1 ≤ t = omega arith in
    let times : (q + 1) * s ≤ t * s = mul-le-mul_right s next in
    let e : (q + 1) * s ≡ q * s + s = grind arith in
    omega arith

pub fits_size : (bits len address : ℕ) → len ≤ bits → address < 2 ^ bits
    → address % 2 ^ (bits - len) ≡ 0 → address + 2 ^ (bits - len) ≤ 2 ^ bits
fits_size bits len address short fits bare =
    let s = 2 ^ (bits - len) in
    let t = 2 ^ len in
    let sum : len + (bits - len) ≡ bits = omega arith in
    let split : 2 ^ bits ≡ t * s = ap (λ k. 2 ^ k) (sym sum) ∙ pow-add 2 len (bits - len) in
    let whole : address ≡ address / s * s = omega (arith, div-add-mod' address s) in
    let pos = pow_pos (bits - len) in
    let r : address + s ≤ t * s =
    room s t (address / s) address pos refl whole (rw split at fits) in
    rw split r

pub shares : (s address a : ℕ) → 0 < s → address % s ≡ 0 → address ≤ a → a < address + s
    → a / s ≡ address / s
shares s address a pos bare low high =
    let q = address / s in
    let whole : address ≡ q * s = omega (arith, div-add-mod' address s) in
    let rest : a ≡ q * s + (a - address) = omega arith in
    ap (λ n. n / s) rest ∙ div-mul-add q s (a - address) (omega arith)

pub within : (s address a : ℕ) → 0 < s → address % s ≡ 0 → a / s ≡ address / s → a < address + s
within s address a pos bare same =
    let q = address / s in
    let whole : address ≡ q * s = omega (arith, div-add-mod' address s) in
    let parts = div-add-mod' a s in
    let times : a / s * s ≡ q * s = ap (λ n. n * s) same in
    omega arith
