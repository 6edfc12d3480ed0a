-- What the bytes of an extension say (RFC 3779 sections 2.2 and 3.2), and which of them have a
-- family of addresses that may not come next.
use Rattle.std.specs.Prelude.{◌≡◌, ℕ, ◌<◌, ◌^◌, Bool, true, false, ◌&&◌, ◌||◌, Option, Some, None, is_none, List, ◌++◌, length}
use Rattle.der.specs.Tags as tag
use Rattle.der.specs.Spelling.{spelled}
use Rattle.der.specs.Form.{Whole, Front}
use Rattle.der.specs.Forms.{content, within, both, OnSomeOf, spelled_some}
use Rattle.der.specs.Leaves.{are_same}
use Rattle.res_sets.specs.declared.numbers.Family.TheVariants.{V4, V6}
use Rattle.res_ext.specs.Formats.{family_bytes, part, as_content, ip_content}

-- The first and the last number of each range of a set.
abbrev pub Spans : Type 0
Spans = List (ℕ × ℕ)

-- The bytes are a SEQUENCE of the value's one spelling. No length takes more than four bytes.
pub record SpellsIn {A : Type 0} (f : Whole A) (value : A) (bytes : List ℕ) : Type 0 where
  pub good : f.good value
  pub short : length (f.spelling value) < 2 ^ 32
  pub spelled : bytes ≡ spelled tag.sequence (f.spelling value)

-- The bytes spell these IP address blocks, of IPv4 and of IPv6: none where they are the issuer's.
abbrev pub SpellsIp : Option (Spans × Spans) → List ℕ → Type 0
SpellsIp value bytes = SpellsIn ip_content value bytes

-- The bytes spell these AS identifiers: none where they are the issuer's.
abbrev pub SpellsAs : Option Spans → List ℕ → Type 0
SpellsAs value bytes = SpellsIn as_content value bytes

-- A SEQUENCE that begins with an OCTET STRING: the bytes of that, and what stands behind them.
abbrev pub named : Front (List ℕ × List ℕ)
named = within tag.sequence (both (within tag.octet_string content) content)

-- Both families inherit, or none does.
abbrev pub are_alike : Option (Option Spans) → Option (Option Spans) → Bool
are_alike (Some None) (Some (Some v6)) = false
are_alike (Some (Some v4)) (Some None) = false
are_alike v4 v6 = true

-- A family with this number may come next, behind those.
abbrev pub may_follow : List ℕ → Option (Option Spans) → Option (Option Spans) → Bool
may_follow number v4 v6 =
    (are_same number (family_bytes V4) && is_none v4 && is_none v6) ||
    (are_same number (family_bytes V6) && is_none v6)

-- Families as they may be stand in front, and then a whole element that begins with a whole OCTET
-- STRING, which is the number of no family that may come next.
pub record GoesWrong (bytes : List ℕ) : Type 0 where
  pub v4 : Option (Option Spans)
  pub v6 : Option (Option Spans)
  pub number : List ℕ
  pub more : List ℕ
  pub rest : List ℕ
  pub v4_part : OnSomeOf (part V4).good v4
  pub v6_part : OnSomeOf (part V6).good v6
  pub alike : are_alike v4 v6 ≡ true
  pub parts : bytes ≡ spelled_some (part V4).spelling v4
      ++ (spelled_some (part V6).spelling v6 ++ (named.spelling (number, more) ++ rest))
  pub bad : may_follow number v4 v6 ≡ false

-- The bytes are a SEQUENCE of bytes that go wrong so.
pub record HasBadFamily (bytes : List ℕ) : Type 0 where
  pub content : List ℕ
  pub whole : bytes ≡ spelled tag.sequence content
  pub short : length content < 2 ^ 32
  pub wrong : GoesWrong content
