-- How sets are printed.
use Rattle.std.specs.Prelude.{◌≡◌, ℕ, ◌==◌, if◌then◌else◌, ◌⊎◌, List, [], ◌∷◌, ◌++◌, Option, Some, None, codes, decimal}
use Rattle.ip_text.specs.Ipv4.{dotted}
use Rattle.ip_text.specs.Ipv6.{ipv6_text}
use Rattle.res_sets.specs.declared.numbers.Family.{Family}
use Rattle.res_sets.specs.declared.numbers.Family.TheVariants.{Asn, V4, V6}
use Rattle.res_sets.specs.declared.numbers.Range.{Range}
use Rattle.res_sets.specs.Prefixes.{IsPrefixRange, prefix_of}

-- an AS number with its mark (RFC 5396, asplain), or an address
abbrev pub number_text : Family → ℕ → List ℕ
number_text Asn n = codes "AS" ++ decimal n
number_text V4 n = dotted n
number_text V6 n = ipv6_text n

-- the first and the last with a hyphen between them
abbrev pub ends_text : Family → Range → List ℕ
ends_text family range = number_text family range.first ++ codes "-" ++ number_text family range.last

-- AS numbers: one alone, or the ends
abbrev pub as_text : Range → List ℕ
as_text range = if range.first == range.last then number_text Asn range.first else ends_text Asn range

-- addresses: a prefix of this length, if of one, or the ends
abbrev pub prefix_or_ends : Family → Range → Option ℕ → List ℕ
prefix_or_ends family range (Some len) = number_text family range.first ++ codes "/" ++ decimal len
prefix_or_ends family range None = ends_text family range

-- a range: of addresses a prefix where they are one
abbrev pub range_text : Family → Range → List ℕ
range_text Asn range = as_text range
range_text V4 range = prefix_or_ends V4 range (prefix_of 32 range)
range_text V6 range = prefix_or_ends V6 range (prefix_of 128 range)

-- The ranges in order, with a comma and a space between them.
abbrev pub ranges_text : Family → List Range → List ℕ
ranges_text family [] = []
ranges_text family (range ∷ []) = range_text family range
ranges_text family (range ∷ next ∷ ranges) = range_text family range ++ codes ", " ++ ranges_text family (next ∷ ranges)

-- The same said range by range.
-- addresses: a prefix where they are one, or the ends
abbrev pub PrintsAddresses : ℕ → Family → Range → List ℕ → Type 0
PrintsAddresses bits family range text =
    ((len : ℕ) × (IsPrefixRange bits len range × (text ≡ number_text family range.first ++ codes "/" ++ decimal len)))
    ⊎ (((len : ℕ) → ¬ IsPrefixRange bits len range) × (text ≡ ends_text family range))

abbrev pub PrintsRange : Family → Range → List ℕ → Type 0
PrintsRange Asn range text = text ≡ as_text range
PrintsRange V4 range text = PrintsAddresses 32 V4 range text
PrintsRange V6 range text = PrintsAddresses 128 V6 range text

-- the ranges in order, with a comma and a space between them
abbrev pub Prints : Family → List Range → List ℕ → Type 0
Prints family [] text = text ≡ []
Prints family (range ∷ []) text = PrintsRange family range text
Prints family (range ∷ next ∷ ranges) text =
    (block : List ℕ) × ((rest : List ℕ) × (PrintsRange family range block × Prints family (next ∷ ranges) rest × (text ≡ block ++ codes ", " ++ rest)))

-- new is old with such a text at its end
abbrev pub Appends : (List ℕ → Type 0) → List ℕ → List ℕ → Type 0
Appends IsText old new = (text : List ℕ) × (IsText text × (new ≡ old ++ text))
