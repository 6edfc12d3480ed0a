-- Which origin a text spells, and the one text that is printed of an origin. Its parts are a
-- ROA's (RFC 9582 sections 4.2 and 4.3.2).
use Rattle.std.specs.Prelude.{◌≡◌, ◌≢◌, ℕ, ◌-◌, ◌%◌, ◌^◌, Bool, true, false, List, [], ◌++◌, Option, None, unwrap_or, codes, decimal, Result, Ok, Err, ◌==◌, if◌then◌else◌}
use Rattle.ip_text.specs.Ipv4.{dotted}
use Rattle.ip_text.specs.Ipv6.{ipv6_text}
use Rattle.origins.specs.Prefix.{address_bits, IsMaximum}
use Rattle.origins.specs.Text.{Parts, IsPrefixText, IsOriginText}
use Rattle.origins.specs.declared.Prefix.{Prefix}
use Rattle.origins.specs.declared.Origin.{Origin}
use Rattle.origins.specs.declared.grammar.WrittenPrefix.{WrittenPrefix}
use Rattle.origins.specs.declared.reading.OriginFault.{OriginFault}
use Rattle.origins.specs.declared.reading.OriginFault.TheVariants.{BadOrigin, HostBits, MaxLength}

-- what is set of the address below its length
abbrev pub host_bits : Parts → ℕ
host_bits parts = parts.address % 2 ^ (address_bits parts.v6 - parts.len)

-- the maximum that is written, or the length
abbrev pub maximum_of : Parts → ℕ
maximum_of parts = unwrap_or parts.maximum parts.len

-- the origin has these parts
pub record HasParts (origin : Origin) (parts : Parts) : Type 0 where
  pub v6 : origin.prefix.v6 ≡ parts.v6
  pub address : origin.prefix.address ≡ parts.address
  pub len : origin.prefix.length ≡ parts.len
  pub max : origin.max ≡ maximum_of parts
  pub asn : origin.asn ≡ parts.asn

-- What parts of a text make. Host bits are looked for first, then a maximum that is below the
-- length or above that of an address.
abbrev pub MakesOrigin : Parts → Result Origin OriginFault → Type 0
MakesOrigin parts (Ok origin) = (host_bits parts ≡ 0)
    × IsMaximum parts.v6 parts.len (maximum_of parts) × HasParts origin parts
MakesOrigin parts (Err HostBits) = host_bits parts ≢ 0
MakesOrigin parts (Err MaxLength) = (host_bits parts ≡ 0)
    × (¬ (IsMaximum parts.v6 parts.len (maximum_of parts)))
MakesOrigin parts (Err BadOrigin) = ⊥

-- what reading a text answers: where it is in the grammar, what its parts make
abbrev pub ReadsOrigin : List ℕ → Result Origin OriginFault → Type 0
ReadsOrigin text (Err BadOrigin) = (parts : Parts) → ¬ (IsOriginText text parts)
ReadsOrigin text (Err HostBits) = (parts : Parts) × IsOriginText text parts × MakesOrigin parts (Err HostBits)
ReadsOrigin text (Err MaxLength) = (parts : Parts) × IsOriginText text parts × MakesOrigin parts (Err MaxLength)
ReadsOrigin text (Ok origin) = (parts : Parts) × IsOriginText text parts × MakesOrigin parts (Ok origin)

-- the text spells the origin: reading answers it
abbrev pub SpellsOrigin : List ℕ → Origin → Type 0
SpellsOrigin text origin = ReadsOrigin text (Ok origin)

-- the text spells the prefix, without a maximum
abbrev pub SpellsPrefix : List ℕ → Prefix → Type 0
SpellsPrefix text prefix = IsPrefixText text prefix.v6 prefix.address prefix.length None

-- what was written, as parts with this maximum
abbrev pub parts_of : WrittenPrefix → ℕ → Option ℕ → Parts
parts_of prefix asn maximum = record {
  v6 = prefix.v6;
  address = prefix.address;
  len = prefix.length;
  maximum = maximum;
  asn = asn;
}

-- an address as it is printed
abbrev pub address_text : Bool → ℕ → List ℕ
address_text false address = dotted address
address_text true address = ipv6_text address

-- a maximum as it is printed: not at all where it is the length
abbrev pub maximum_text : ℕ → ℕ → List ℕ
maximum_text len max = if max == len then [] else codes "-" ++ decimal max

-- an origin as it is printed
abbrev pub origin_text : Origin → List ℕ
origin_text origin = address_text origin.prefix.v6 origin.prefix.address ++ codes "/"
    ++ decimal origin.prefix.length ++ maximum_text origin.prefix.length origin.max
    ++ codes " => " ++ decimal origin.asn
