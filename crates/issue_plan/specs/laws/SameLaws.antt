-- What is found to have the same content has it.
use Rattle.std.proofs.Common.{◌≡◌, Bool, true, false, ◌&&◌, List, [], ◌∷◌, refl, sym, ap, ap₂, ◌∙◌}
use Rattle.std.specs.Prelude.{◌==◌}
use Rattle.std.specs.Bool.{beq}
use Rattle.std.proofs.lemmas.Bool.{false≢true, and_parts, eqb-true}
use Rattle.origins.specs.declared.Prefix.{Prefix}
use Rattle.origins.specs.declared.Origin.{Origin}
use Rattle.origins.specs.laws.Same.{same_prefix, same_origin}
use Rattle.res_sets.specs.Sets.{RangeSet}
use Rattle.res_sets.specs.declared.numbers.Range.{Range}
use Rattle.res_sets.specs.declared.holdings.Resources.{Resources}
use Rattle.res_sets.specs.laws.SetLaws.{same_range, same_resources}
use Rattle.key_ids.specs.declared.identifier.KeyId.{KeyId}
use Rattle.key_roll.specs.declared.issued.What.{What}
use Rattle.key_roll.specs.declared.issued.What.TheVariants.{Authority, Route, Point}
use Rattle.key_roll.specs.declared.work.CertWork.{CertWork}
use Rattle.key_roll.specs.declared.work.RoaWork.{RoaWork}
use Rattle.issue_plan.specs.Keys.{is_live}
use Rattle.issue_plan.specs.Serves.{is_same_range, are_same_ranges, is_same_resources, is_same_prefix, is_same_origin, certifies, authorizes}

ranges-are : (a b : List Range) → are_same_ranges a b ≡ true → a ≡ b
ranges-are [] [] so = refl
ranges-are [] (y ∷ b) so = absurd (false≢true so)
ranges-are (x ∷ a) [] so = absurd (false≢true so)
ranges-are (x ∷ a) (y ∷ b) so =
    let parts = and_parts (is_same_range x y) (are_same_ranges a b) so in
    let ends = and_parts (x.first == y.first) (x.last == y.last) parts.0 in
    let first : x ≡ y = same_range x y (eqb-true x.first y.first ends.0) (eqb-true x.last y.last ends.1) in
    ap₂ (λ (r : Range) (l : List Range). r ∷ l) first (ranges-are a b parts.1)

set-is : (a b : RangeSet) → a.family ≡ b.family → a.ranges ≡ b.ranges → a ≡ b
set-is a b family ranges = λ i. record { family = family i; ranges = ranges i }

-- The same numbers are one set of resources.
pub resources-are : (a b : Resources) → is_same_resources a b ≡ true → a ≡ b
resources-are a b so =
    let asn = are_same_ranges a.asn.ranges b.asn.ranges in
    let v4 = are_same_ranges a.v4.ranges b.v4.ranges in
    let v6 = are_same_ranges a.v6.ranges b.v6.ranges in
    let last = and_parts (asn && v4) v6 so in
    let first = and_parts asn v4 last.0 in
    same_resources a b
    (set-is a.asn b.asn (a.asn_family ∙ sym b.asn_family) (ranges-are a.asn.ranges b.asn.ranges first.0))
    (set-is a.v4 b.v4 (a.v4_family ∙ sym b.v4_family) (ranges-are a.v4.ranges b.v4.ranges first.1))
    (set-is a.v6 b.v6 (a.v6_family ∙ sym b.v6_family) (ranges-are a.v6.ranges b.v6.ranges last.1))

bools-are : (a b : Bool) → beq a b ≡ true → a ≡ b
bools-are true true so = refl
bools-are true false so = absurd (false≢true so)
bools-are false true so = absurd (false≢true so)
bools-are false false so = refl

prefix-is : (a b : Prefix) → is_same_prefix a b ≡ true → a ≡ b
prefix-is a b so =
    let last = and_parts (beq a.v6 b.v6 && (a.address == b.address)) (a.length == b.length) so in
    let first = and_parts (beq a.v6 b.v6) (a.address == b.address) last.0 in
    same_prefix a b (bools-are a.v6 b.v6 first.0) (eqb-true a.address b.address first.1)
    (eqb-true a.length b.length last.1)

pub origin-is : (a b : Origin) → is_same_origin a b ≡ true → a ≡ b
origin-is a b so =
    let last = and_parts (is_same_prefix a.prefix b.prefix && (a.max == b.max)) (a.asn == b.asn) so in
    let first = and_parts (is_same_prefix a.prefix b.prefix) (a.max == b.max) last.0 in
    same_origin a b (prefix-is a.prefix b.prefix first.0) (eqb-true a.max b.max first.1) (eqb-true a.asn b.asn last.1)

-- What certifies says the wanted resources of the wanted key.
pub record Certifies (cert : CertWork) (what : What) : Type 0 where
  pub key : KeyId
  pub says : what ≡ Authority key cert.held
  pub named : is_live key cert.subject ≡ true

pub certified : (cert : CertWork) (what : What) → certifies cert what ≡ true → Certifies cert what
certified cert (Authority key held) so =
    let parts = and_parts (is_live key cert.subject) (is_same_resources held cert.held) so in
    record { key = key; says = ap (Authority key) (resources-are held cert.held parts.1); named = parts.0 }
certified cert (Route origin) so = absurd (false≢true so)
certified cert Point so = absurd (false≢true so)

-- What authorizes says the wanted origin.
pub authorized : (roa : RoaWork) (what : What) → authorizes roa what ≡ true → what ≡ Route roa.origin
authorized roa (Authority key held) so = absurd (false≢true so)
authorized roa (Route origin) so = ap Route (origin-is origin roa.origin so)
authorized roa Point so = absurd (false≢true so)
