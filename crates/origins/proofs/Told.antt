-- What a maximum makes is known of it as 64 bits tell it.
use Rattle.std.proofs.Common.{◌≡◌, ℕ, ◌≤◌, List, Bool, true, false, Option, Some, None, unwrap_or, Result, Ok, Err, refl, ap, subst, ◌∙◌, arith}
use Rattle.ip_text.specs.Number.{saturated}
use Rattle.origins.specs.Prefix.{address_bits, IsMaximum}
use Rattle.origins.specs.Text.{Parts, IsOriginText}
use Rattle.origins.specs.inner.Told.{IsTold}
use Rattle.origins.specs.Origin.{MakesOrigin, ReadsOrigin, parts_of}
use Rattle.origins.specs.declared.Origin.{Origin}
use Rattle.origins.specs.declared.grammar.WrittenPrefix.{WrittenPrefix}
use Rattle.origins.specs.declared.reading.OriginFault.{OriginFault}
use Rattle.origins.specs.declared.reading.OriginFault.TheVariants.{BadOrigin, HostBits, MaxLength}

pub bits_small : (v6 : Bool) → address_bits v6 ≤ 128
bits_small true = omega arith
bits_small false = omega arith

told_or : (told maximum : Option ℕ) (len : ℕ) → IsTold told maximum → len ≤ 128 → unwrap_or told len ≡ saturated (unwrap_or maximum len)
told_or told None len is short = ap (λ (o : Option ℕ). unwrap_or o len) is ∙ omega arith
told_or told (Some m) len is short = ap (λ (o : Option ℕ). unwrap_or o len) is

pub makes_told : (prefix : WrittenPrefix) (asn : ℕ) (maximum : Option ℕ) (r : Result Origin OriginFault) → IsTold prefix.maximum maximum → prefix.length ≤ address_bits prefix.v6
    → MakesOrigin (parts_of prefix asn prefix.maximum) r → MakesOrigin (parts_of prefix asn maximum) r
makes_told prefix asn maximum (Ok origin) told short (none, is, has) =
    let small = bits_small prefix.v6 in
    let e = told_or prefix.maximum maximum prefix.length told (omega arith) in
    let exact : unwrap_or prefix.maximum prefix.length ≡ unwrap_or maximum prefix.length = omega (arith, e, is.at_most) in (
      none,
      subst (λ m. IsMaximum prefix.v6 prefix.length m) exact is,
      record { v6 = has.v6; address = has.address; len = has.len; max = has.max ∙ exact; asn = has.asn },
    )
makes_told prefix asn maximum (Err BadOrigin) told short made = absurd made
makes_told prefix asn maximum (Err HostBits) told short made = made
makes_told prefix asn maximum (Err MaxLength) told short (none, not) =
    let small = bits_small prefix.v6 in
    let e = told_or prefix.maximum maximum prefix.length told (omega arith) in
    (none, λ is. not (record { at_least = omega (arith, e, is.at_least); at_most = omega (arith, e, is.at_most) }))

-- what the parts of a text make is what reading it answers
pub reads_made : (text : List ℕ) (parts : Parts) (r : Result Origin OriginFault) → IsOriginText text parts → MakesOrigin parts r → ReadsOrigin text r
reads_made text parts (Ok origin) is made = (parts, is, made)
reads_made text parts (Err BadOrigin) is made = absurd made
reads_made text parts (Err HostBits) is made = (parts, is, made)
reads_made text parts (Err MaxLength) is made = (parts, is, made)

-- no maximum is written exactly where none is told
pub told_none : (told maximum : Option ℕ) → IsTold told maximum → maximum ≡ None → told ≡ None
told_none told None is e = is
told_none told (Some m) is e = absurd (cc)

pub none_told : (told maximum : Option ℕ) → IsTold told maximum → told ≡ None → maximum ≡ None
none_told told None is e = refl
none_told told (Some m) is e = absurd (cc)
