-- The greatest address of a prefix.
use Rattle.std.proofs.Common.{◌≡◌, ℕ, ◌+◌, ◌-◌, ◌^◌, ◌<◌, ◌≤◌, Bool, arith}
use Rattle.std.proofs.lemmas.Nat.{pow_pos}
use Rattle.origins.specs.Prefix.{address_bits, IsPrefix, IsAddressOf}
use Rattle.payloads.specs.declared.values.RoaEntry.{RoaEntry}
use Rattle.payloads.specs.RoaFormats.{entry_view}
use Rattle.rp_rules.specs.Holdings.{Span, span_of}
use Rattle.origins.specs.laws.RangeLaws.{shares, within, fits_size}

last_is : (v6 : Bool) (address len last : ℕ) → IsPrefix v6 address len → IsAddressOf v6 address len last → ((a : ℕ) → IsAddressOf v6 address len a → a ≤ last)
    → last ≡ address + (2 ^ (address_bits v6 - len) - 1)
last_is v6 address len last prefix member greatest =
    let s = 2 ^ (address_bits v6 - len) in
    let pos : 0 < s = pow_pos (address_bits v6 - len) in
    let fits : address + s ≤ 2 ^ address_bits v6 = fits_size (address_bits v6) len address prefix.short prefix.fits prefix.no_host_bits in
    let end : ℕ = address + (s - 1) in
    let high : last < address + s = within s address last pos prefix.no_host_bits member.shares in
    let low : end ≤ last = greatest end (record { fits = omega arith; shares = shares s address end pos prefix.no_host_bits (omega arith) (omega arith) }) in
    omega arith

pair_is : (a b c d : ℕ) → a ≡ c → b ≡ d → ◌≡◌ {A = Span} (a, b) (c, d)
pair_is a b c d e f = cc

-- The two ends of the addresses of an entry.
pub ends_are : (e : RoaEntry) (first last : ℕ) → first ≡ e.prefix.address → IsAddressOf e.prefix.v6 e.prefix.address e.prefix.length last
    → ((a : ℕ) → IsAddressOf e.prefix.v6 e.prefix.address e.prefix.length a → a ≤ last) → ◌≡◌ {A = Span} (first, last) (span_of (entry_view e))
ends_are e first last at member greatest =
    pair_is first last e.prefix.address (e.prefix.address + (2 ^ (address_bits e.prefix.v6 - e.prefix.length) - 1)) at
    (last_is e.prefix.v6 e.prefix.address e.prefix.length last e.prefix.prefix member greatest)
