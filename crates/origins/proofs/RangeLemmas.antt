-- The addresses of a prefix are a range.
use Rattle.std.proofs.Common.{◌≡◌, ℕ, true, false, lit≤, ◌+◌, ◌-◌, ◌*◌, ◌%◌, ◌^◌, ◌<◌, ◌≤◌, Bool, arith}
use Rattle.std.proofs.lemmas.Grind.{common_steps}
use Rattle.std.proofs.lemmas.Nat.{pow_pos}
use Rattle.origins.specs.Prefix.{address_bits, IsPrefix, IsAddressOf}
use Rattle.origins.specs.laws.RangeLaws.{shares, within, fits_size}

-- the size of a prefix: how many addresses share its first bits
abbrev pub size : ℕ → ℕ → ℕ
size bits len = 2 ^ (bits - len)

-- the greatest address
pub record IsLast (v6 : Bool) (address len last : ℕ) : Type 0 where
  pub member : IsAddressOf v6 address len last
  pub greatest : (a : ℕ) → IsAddressOf v6 address len a → a ≤ last
  pub between : (a : ℕ) → address ≤ a → a ≤ last → IsAddressOf v6 address len a

pub last_is : (v6 : Bool) (address len last : ℕ) → IsPrefix v6 address len → last + 1 ≡ address + 2 ^ (address_bits v6 - len) → IsLast v6 address len last
last_is v6 address len last prefix is =
    let s = 2 ^ (address_bits v6 - len) in
    let pos : 0 < s = pow_pos (address_bits v6 - len) in
    let fits = fits_size (address_bits v6) len address prefix.short prefix.fits prefix.no_host_bits in
    let member = λ (a : ℕ) (low : address ≤ a) (high : a ≤ last).
    let m : IsAddressOf v6 address len a = record { fits = omega arith; shares = shares s address a pos prefix.no_host_bits low (omega arith) } in m in
    record {
      member = member last (omega arith) (omega arith);
      greatest = λ a h. omega (arith, within s address a pos prefix.no_host_bits h.shares);
      between = member;
    }

-- an address of either family fits 128 bits
pub bits_fit : (v6 : Bool) → 2 ^ address_bits v6 ≤ 2 ^ 128
bits_fit true = lit≤ tt
bits_fit false = lit≤ tt

pub shifted : (h bits len size : ℕ) → h ≡ bits - len → h < 128 → size ≡ (1 * 2 ^ h) % 2 ^ 128 → size ≡ 2 ^ (bits - len)
shifted h bits len size e small is = grind (arith, common_steps)
