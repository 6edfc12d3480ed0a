-- What parts make, they make alone.
use Rattle.std.proofs.Common.{◌≡◌, ℕ, List, Result, Ok, Err, sym, ap, ◌∙◌}
use Rattle.origins.specs.Text.{Parts, IsOriginText}
use Rattle.origins.specs.laws.Same.{same_prefix, same_origin}
use Rattle.origins.specs.Origin.{HasParts, MakesOrigin, SpellsOrigin}
use Rattle.origins.specs.declared.Origin.{Origin}
use Rattle.origins.specs.declared.reading.OriginFault.{OriginFault}
use Rattle.origins.specs.declared.reading.OriginFault.TheVariants.{BadOrigin, HostBits, MaxLength}
use Rattle.origins.proofs.Arounds.{same_origin_texts}

one_origin : (o p : Origin) (parts : Parts) → HasParts o parts → HasParts p parts → o ≡ p
one_origin o p parts a b =
    let prefix = same_prefix o.prefix p.prefix (a.v6 ∙ sym b.v6) (a.address ∙ sym b.address) (a.len ∙ sym b.len) in
    same_origin o p prefix (a.max ∙ sym b.max) (a.asn ∙ sym b.asn)

one_answer : (parts : Parts) (r : Result Origin OriginFault) (origin : Origin) → MakesOrigin parts r → MakesOrigin parts (Ok origin) → r ≡ Ok origin
one_answer parts (Ok o) origin a b = ap Ok (one_origin o origin parts a.2 b.2)
one_answer parts (Err BadOrigin) origin a b = absurd a
one_answer parts (Err HostBits) origin a b = absurd (a b.0)
one_answer parts (Err MaxLength) origin a b = absurd (a.1 b.1)

-- a text that spells an origin makes nothing else
pub spelled_alone : (text : List ℕ) (parts : Parts) (r : Result Origin OriginFault) (origin : Origin) → IsOriginText text parts → MakesOrigin parts r
    → SpellsOrigin text origin → r ≡ Ok origin
spelled_alone text parts r origin is made (other, also, spelled) =
    let same = same_origin_texts text other parts also is in
    one_answer parts r origin made (rw (← same) spelled)
