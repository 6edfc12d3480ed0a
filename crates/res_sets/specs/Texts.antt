-- What the texts of sets spell. AS numbers are written as RFC 5396 has them, IPv6 addresses as
-- RFC 4291 section 2.2 does.
use Rattle.std.specs.Prelude.{◌≡◌, ℕ, ◌++◌, ◌<◌, Result, Ok, Err, List, [], ◌∷◌, zero, suc, ⊤}
use Rattle.std.specs.Bool.{MatchBool}
use Rattle.std.specs.List.{list_any, before_first, after_first}
use Rattle.ip_text.specs.Number.{IsDecimalText, IsAsNumberText}
use Rattle.ip_text.specs.Ipv4.{IsIpv4Text}
use Rattle.ip_text.specs.Ipv6.{IsIpv6Text}
use Rattle.res_sets.specs.declared.numbers.Family.{Family}
use Rattle.res_sets.specs.declared.numbers.Family.TheVariants.{Asn, V4, V6}
use Rattle.res_sets.specs.declared.numbers.Range.{Range}
use Rattle.res_sets.specs.declared.prefixes.BlockFault.{BlockFault}
use Rattle.res_sets.specs.declared.prefixes.BlockFault.TheVariants.{BadNumber, BadRange, HostBits}
use Rattle.res_sets.specs.declared.texts.TextFault.{TextFault}
use Rattle.res_sets.specs.declared.texts.TextFault.TheVariants as text
use Rattle.res_sets.specs.Numbers.{any_spans, AreCanonical}
use Rattle.res_sets.specs.Sets.{RangeSet}
use Rattle.res_sets.specs.Prefixes.{ReadsPrefix}
use Rattle.res_sets.specs.Blocks.{is_hyphen, is_slash, without_leading, without_trailing, blocks}

-- the text writes this number of the family
abbrev pub Writes : Family → List ℕ → ℕ → Type 0
Writes Asn text n = IsAsNumberText text n
Writes V4 text n = IsIpv4Text text n
Writes V6 text n = IsIpv6Text text n

-- a number alone
abbrev pub ReadsNumber : (ℕ → Type 0) → Result Range BlockFault → Type 0
ReadsNumber Number (Ok range) = Number range.first × (range.last ≡ range.first)
ReadsNumber Number (Err BadNumber) = (n : ℕ) → ¬ Number n
ReadsNumber Number (Err BadRange) = ⊥
ReadsNumber Number (Err HostBits) = ⊥

-- two numbers, the first and the last of a range
abbrev pub ReadsEnds : (ℕ → Type 0) → (ℕ → Type 0) → Result Range BlockFault → Type 0
ReadsEnds First Last (Ok range) = First range.first × Last range.last
ReadsEnds First Last (Err BadNumber) = (m n : ℕ) → First m → ¬ Last n
ReadsEnds First Last (Err BadRange) = (m : ℕ) × ((n : ℕ) × (First m × Last n × (n < m)))
ReadsEnds First Last (Err HostBits) = ⊥

-- an address, or a prefix where there is a slash
abbrev pub ReadsAddress : ℕ → Family → List ℕ → Result Range BlockFault → Type 0
ReadsAddress bits family block r =
    MatchBool (list_any is_slash block)
    (ReadsPrefix bits (Writes family (before_first is_slash block)) (IsDecimalText (after_first is_slash block)) r)
    (ReadsNumber (Writes family block) r)

abbrev pub ReadsOne : Family → List ℕ → Result Range BlockFault → Type 0
ReadsOne Asn block r = ReadsNumber (Writes Asn block) r
ReadsOne V4 block r = ReadsAddress 32 V4 block r
ReadsOne V6 block r = ReadsAddress 128 V6 block r

-- What a block says. One with a hyphen has two numbers or addresses, and blanks round the hyphen count
-- for nothing. Any other is a number, an address or a prefix.
abbrev pub ReadsBlock : Family → List ℕ → Result Range BlockFault → Type 0
ReadsBlock family block r =
    MatchBool (list_any is_hyphen block)
    (ReadsEnds (Writes family (without_trailing (before_first is_hyphen block))) (Writes family (without_leading (after_first is_hyphen block))) r)
    (ReadsOne family block r)

-- each block says the range at its place
abbrev pub AllRead : Family → List (List ℕ) → List Range → Type 0
AllRead family [] [] = ⊤
AllRead family (block ∷ bs) (range ∷ ranges) = ReadsBlock family block (Ok range) × AllRead family bs ranges
AllRead family [] (range ∷ ranges) = ⊥
AllRead family (block ∷ bs) [] = ⊥

-- The text spells the numbers of the canonical ranges: each of its blocks says a range, and these have
-- the same numbers.
pub record SpellsRanges (family : Family) (text : List ℕ) (ranges : List Range) : Type 0 where
  pub members : (said : List Range) × (AllRead family (blocks text) said × ((n : ℕ) → any_spans ranges n ≡ any_spans said n))
  pub canonical : AreCanonical family ranges

-- The text spells the set of the family.
pub record Spells (of : Family) (text : List ℕ) (set : RangeSet) : Type 0 where
  pub family : set.family ≡ of
  pub ranges : SpellsRanges of text set.ranges

-- the block at the place is the first that says no range, and why it says none
abbrev pub IsFirstFault : Family → List (List ℕ) → ℕ → BlockFault → Type 0
IsFirstFault family [] at fault = ⊥
IsFirstFault family (block ∷ bs) zero fault = ReadsBlock family block (Err fault)
IsFirstFault family (block ∷ bs) (suc at) fault =
    ((range : Range) × ReadsBlock family block (Ok range)) × IsFirstFault family bs at fault

-- Want of memory may come at any time. Any other fault is that of the first faulty block.
abbrev pub HasFault : Family → List ℕ → TextFault → Type 0
HasFault family bytes (text.BadNumber at) = IsFirstFault family (blocks bytes) at BadNumber
HasFault family bytes (text.BadRange at) = IsFirstFault family (blocks bytes) at BadRange
HasFault family bytes (text.HostBits at) = IsFirstFault family (blocks bytes) at HostBits
HasFault family bytes text.Memory = ⊤

-- the fault of a block, with the block's place
abbrev pub fault_at : BlockFault → ℕ → TextFault
fault_at BadNumber at = text.BadNumber at
fault_at BadRange at = text.BadRange at
fault_at HostBits at = text.HostBits at

-- a list of ranges with that of the block at its end
abbrev pub PushesBlock : Family → List ℕ → List Range → List Range → Type 0
PushesBlock family block old new = (range : Range) × (ReadsBlock family block (Ok range) × (new ≡ old ++ range ∷ []))

-- the fault of the block, which is at the place
abbrev pub BlockHasFault : Family → List ℕ → ℕ → TextFault → Type 0
BlockHasFault family block place (text.BadNumber at) = (at ≡ place) × ReadsBlock family block (Err BadNumber)
BlockHasFault family block place (text.BadRange at) = (at ≡ place) × ReadsBlock family block (Err BadRange)
BlockHasFault family block place (text.HostBits at) = (at ≡ place) × ReadsBlock family block (Err HostBits)
BlockHasFault family block place text.Memory = ⊤
