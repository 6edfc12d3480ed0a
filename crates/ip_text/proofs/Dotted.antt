-- std's dotted addresses, as numbers.
use Rattle.std.proofs.Common.{◌≡◌, ℕ, zero, suc, lit<, ◌^◌, ◌<◌, List, [], ◌∷◌, length, get_or, refl, sym, ap, ◌∙◌, arith}
use Rattle.std.proofs.lemmas.Nat.{be_bytes_4}
use Rattle.std.specs.Int.{w32, to_be_bytes}
use Rattle.std.specs.declared.net.ipv4_addr.Ipv4Addr.{Ipv4Addr}
use Rattle.std.specs.Net.Addr.{ipv4_octets, ipv4_bits}
use Rattle.std.specs.Net.Grammar.{IsDotted}
use Rattle.std.specs.Net.Text.{ipv4_text}
use Rattle.ip_text.specs.Ipv4.{IsIpv4Text}

within_four : (a b c d i : ℕ) → a < 256 → b < 256 → c < 256 → d < 256 → get_or (a ∷ b ∷ c ∷ d ∷ []) i 0 < 256
within_four a b c d zero p q r s = p
within_four a b c d (suc zero) p q r s = q
within_four a b c d (suc (suc zero)) p q r s = r
within_four a b c d (suc (suc (suc zero))) p q r s = s
within_four a b c d (suc (suc (suc (suc i)))) p q r s = lit< tt

octets_fit : (o : List ℕ) (text : List ℕ) → IsDotted text o → (length o ≡ 4) × ((i : ℕ) → get_or o i 0 < 256)
octets_fit o text h =
    rw h.value (refl, λ i. within_four _ _ _ _ i h.fit.0 h.fit.1 h.fit.2 h.fit.3)

pub from_dotted : (text : List ℕ) (a : Ipv4Addr) → IsDotted text (ipv4_octets a) → to_be_bytes w32 (ipv4_bits a) ≡ ipv4_octets a
unfolding ipv4_bits
from_dotted text a h =
    let fit = octets_fit (ipv4_octets a) text h in
    be_bytes_4 (ipv4_octets a) _ fit.0 fit.1 refl

dotted_is : (text o : List ℕ) → IsDotted text o → text ≡ ipv4_text o
dotted_is text o h = h.spelled ∙ ap ipv4_text (sym h.value)

bits_fit : (text : List ℕ) (a : Ipv4Addr) → IsDotted text (ipv4_octets a) → ipv4_bits a < 2 ^ 32
unfolding ipv4_bits
bits_fit text a h =
    let fit = (octets_fit (ipv4_octets a) text h).1 in
    omega (arith, fit 0, fit 1, fit 2, fit 3)

pub bits_of_dotted : (text : List ℕ) (a : Ipv4Addr) → IsDotted text (ipv4_octets a) → IsIpv4Text text (ipv4_bits a)
bits_of_dotted text a h = (bits_fit text a h, dotted_is text (ipv4_octets a) h ∙ ap ipv4_text (sym (from_dotted text a h)))
