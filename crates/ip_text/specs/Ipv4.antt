-- IPv4 addresses in dotted decimal.
use Rattle.std.specs.Prelude.{◌≡◌, ℕ, ◌^◌, ◌<◌, List}
use Rattle.std.specs.Int.{w32, to_be_bytes}
use Rattle.std.specs.Net.Text.{ipv4_text}

-- an address's four bytes in decimal, the highest first, joined by dots
abbrev pub dotted : ℕ → List ℕ
dotted address = ipv4_text (to_be_bytes w32 address)

-- the text writes this address of 32 bits
abbrev pub IsIpv4Text : List ℕ → ℕ → Type 0
IsIpv4Text text address = (address < 2 ^ 32) × (text ≡ dotted address)
