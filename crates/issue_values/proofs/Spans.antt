-- The last address of a prefix.
use Rattle.std.proofs.Common.{◌≡◌, ℕ, ◌+◌, ◌-◌, ◌^◌, ◌<◌, ◌≤◌, Bool, ap, ◌∙◌, arith}
use Rattle.std.proofs.lemmas.Nat.{pow_pos}
use Rattle.origins.specs.Prefix.{address_bits, IsPrefix, IsAddressOf}
use Rattle.origins.specs.declared.Prefix.{Prefix}
use Rattle.issue_values.specs.Certificates.{prefix_span}
use Rattle.origins.specs.laws.RangeLaws.{shares, within, fits_size}

-- The greatest address of a prefix.
pub last-is : (v6 : Bool) (address len last : ℕ) → IsPrefix v6 address len → IsAddressOf v6 address len last → ((a : ℕ) → IsAddressOf v6 address len a → a ≤ last) → last ≡ address + (2 ^ (address_bits v6 - len) - 1)
last-is v6 address len last prefix member greatest =
    let s = 2 ^ (address_bits v6 - len) in
    let pos : 0 < s = pow_pos (address_bits v6 - len) in
    let fits = fits_size (address_bits v6) len address prefix.short prefix.fits prefix.no_host_bits in
    let below : last < address + s = within s address last pos prefix.no_host_bits member.shares in
    let top : IsAddressOf v6 address len (address + (s - 1)) = record {
      fits = omega arith;
      shares = shares s address (address + (s - 1)) pos prefix.no_host_bits (omega arith) (omega arith);
    } in
    let high : address + (s - 1) ≤ last = greatest (address + (s - 1)) top in
    omega arith

abbrev pub pair : ℕ → ℕ → ℕ × ℕ
pair a b = (a, b)

-- The two ends.
pub ends : (p : Prefix) (first last : ℕ) → first ≡ p.address → last ≡ p.address + (2 ^ (address_bits p.v6 - p.length) - 1) → pair first last ≡ prefix_span p
ends p first last begins is = ap (λ (a : ℕ). pair a last) begins ∙ ap (pair p.address) is
