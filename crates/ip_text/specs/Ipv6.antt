-- IPv6 addresses in hex groups (RFC 4291 section 2.2), with no dotted part.
use Rattle.std.specs.Prelude.{◌≡◌, ℕ, ◌+◌, ◌-◌, ◌^◌, ◌<◌, ◌⊎◌, false, List, ◌++◌, length, replicate, codes}
use Rattle.std.specs.Int.{w128, to_be_bytes, from_be_bytes}
use Rattle.std.specs.Net.Addr.{octets_of, segments_of}
use Rattle.std.specs.Net.Grammar.{IsGroups}
use Rattle.std.specs.Net.Text.{hex_groups_text}

-- groups of one to four hex digits with colons between them, or nothing
abbrev pub IsHexGroups : List ℕ → List ℕ → Type 0
IsHexGroups text groups = IsGroups false text groups

-- groups on each side of `::`, which stands for one zero group or more
pub record IsElidedGroups (text groups : List ℕ) : Type 0 where
  pub head_text : List ℕ
  pub tail_text : List ℕ
  pub head : List ℕ
  pub tail : List ℕ
  pub spelled : text ≡ head_text ++ codes "::" ++ tail_text
  pub head_groups : IsHexGroups head_text head
  pub tail_groups : IsHexGroups tail_text tail
  pub room : length head + length tail < 8
  pub value : groups ≡ head ++ replicate (8 - length head - length tail) 0 ++ tail

-- all eight groups, or some with `::`
abbrev pub IsEightGroups : List ℕ → List ℕ → Type 0
IsEightGroups text groups = (IsHexGroups text groups × (length groups ≡ 8))
    ⊎ IsElidedGroups text groups

-- the text writes this address of 128 bits: its groups have the address's bytes, two each
pub record IsIpv6Text (text : List ℕ) (address : ℕ) : Type 0 where
  pub groups : List ℕ
  pub spelled : IsEightGroups text groups
  pub value : address ≡ from_be_bytes w128 (octets_of groups)
  pub fits : address < 2 ^ 128

-- The address in lower case with no leading zeros, and `::` for the first longest run of two or
-- more zero groups (RFC 5952 section 4).
abbrev pub ipv6_text : ℕ → List ℕ
ipv6_text address = hex_groups_text (segments_of (to_be_bytes w128 address))
