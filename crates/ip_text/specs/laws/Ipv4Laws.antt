-- A text writes one IPv4 address at most.
use Rattle.std.proofs.Common.{◌≡◌, ℕ, List, get_or, refl, sym, ap, ◌∙◌, arith}
use Rattle.std.proofs.lemmas.Nat.{from_be_bytes-to_be_bytes_4}
use Rattle.std.proofs.NetLemmas.Theorems.{IsIpv4Text_unique}
use Rattle.std.specs.Int.{w32, to_be_bytes, from_be_bytes}
use Rattle.std.specs.declared.net.ipv4_addr.Ipv4Addr.{Ipv4Addr}
use Rattle.std.specs.Net.Addr.{ipv4_octets}
use Rattle.std.specs.Net.Grammar.{IsDotted}
use Rattle.ip_text.specs.Ipv4.{IsIpv4Text}

-- the octets of an address
abbrev pub addr_of : ℕ → Ipv4Addr
addr_of n = record { octets = to_be_bytes w32 n }

-- an address that std's grammar has, as bytes
pub to_dotted : (text : List ℕ) (n : ℕ) → IsIpv4Text text n → IsDotted text (to_be_bytes w32 n)
to_dotted text n h = record {
  a = get_or (to_be_bytes w32 n) 0 0;
  b = get_or (to_be_bytes w32 n) 1 0;
  c = get_or (to_be_bytes w32 n) 2 0;
  d = get_or (to_be_bytes w32 n) 3 0;
  fit = (omega arith, omega arith, omega arith, omega arith);
  value = refl;
  spelled = h.1;
}

-- no text writes two IPv4 addresses
pub one_ipv4 : (text : List ℕ) (m n : ℕ) → IsIpv4Text text m → IsIpv4Text text n → m ≡ n
one_ipv4 text m n a b =
    let one = IsIpv4Text_unique text (addr_of m) (addr_of n) (to_dotted text m a) (to_dotted text n b) in
    let bytes : to_be_bytes w32 m ≡ to_be_bytes w32 n = ap ipv4_octets one in
    sym (from_be_bytes-to_be_bytes_4 m a.0) ∙ (ap (from_be_bytes w32) bytes ∙ from_be_bytes-to_be_bytes_4 n b.0)
