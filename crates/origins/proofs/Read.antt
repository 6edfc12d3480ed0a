-- What was read of a text, and what it makes.
use Rattle.std.proofs.Common.{◌≡◌, ℕ, List, Option, Result, Ok}
use Rattle.origins.specs.Text.{IsOriginText}
use Rattle.origins.specs.Origin.{MakesOrigin, ReadsOrigin, SpellsOrigin, parts_of}
use Rattle.origins.specs.declared.Origin.{Origin}
use Rattle.origins.specs.declared.grammar.WrittenPrefix.{WrittenPrefix}
use Rattle.origins.specs.declared.reading.OriginFault.{OriginFault}
use Rattle.origins.specs.inner.Told.{IsTold}
use Rattle.origins.proofs.Same.{spelled_alone}
use Rattle.origins.proofs.Told.{makes_told, reads_made}

module _ (text : List ℕ) (prefix : WrittenPrefix) (asn : ℕ) (r : Result Origin OriginFault)
    (read : (maximum : Option ℕ) × IsTold prefix.maximum maximum × IsOriginText text (parts_of prefix asn maximum))
    (made : MakesOrigin (parts_of prefix asn prefix.maximum) r) where
  pub reads : ReadsOrigin text r
  reads =
      let (maximum, told, is) = read in
      reads_made text (parts_of prefix asn maximum) r is (makes_told prefix asn maximum r told is.prefix_is.short made)

  -- and nothing else is spelled
  pub alone : (origin : Origin) → SpellsOrigin text origin → r ≡ Ok origin
  alone origin =
      let (maximum, told, is) = read in
      spelled_alone text (parts_of prefix asn maximum) r origin is (makes_told prefix asn maximum r told is.prefix_is.short made)
