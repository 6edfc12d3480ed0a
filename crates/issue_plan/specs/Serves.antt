-- Whether an object that stands serves for one that is wanted: it is by the key that is to issue it,
-- says what that is to say, and isn't due.
use Rattle.std.specs.Prelude.{ℕ, ◌==◌, Bool, true, false, ◌&&◌, not, List}
use Rattle.std.specs.Bool.{beq}
use Rattle.std.specs.Cmp.Lexicographic.{pointwise}
use Rattle.origins.specs.declared.Prefix.{Prefix}
use Rattle.origins.specs.declared.Origin.{Origin}
use Rattle.res_sets.specs.declared.numbers.Range.{Range}
use Rattle.res_sets.specs.declared.holdings.Resources.{Resources}
use Rattle.key_roll.specs.declared.issued.IssuedRow.{IssuedRow}
use Rattle.key_roll.specs.declared.issued.What.{What}
use Rattle.key_roll.specs.declared.issued.What.TheVariants.{Authority, Route, Point}
use Rattle.key_roll.specs.declared.work.KeyName.{KeyName}
use Rattle.key_roll.specs.declared.work.CertWork.{CertWork}
use Rattle.key_roll.specs.declared.work.RoaWork.{RoaWork}
use Rattle.issue_plan.specs.Keys.{is_live}
use Rattle.issue_plan.specs.Due.{is_due}

-- ---- one content

abbrev pub is_same_range : Range → Range → Bool
is_same_range a b = (a.first == b.first) && (a.last == b.last)

abbrev pub are_same_ranges : List Range → List Range → Bool
are_same_ranges a b = pointwise is_same_range a b

-- The same numbers of each family.
abbrev pub is_same_resources : Resources → Resources → Bool
is_same_resources a b =
    are_same_ranges a.asn.ranges b.asn.ranges
    && are_same_ranges a.v4.ranges b.v4.ranges
    && are_same_ranges a.v6.ranges b.v6.ranges

abbrev pub is_same_prefix : Prefix → Prefix → Bool
is_same_prefix a b = beq a.v6 b.v6 && (a.address == b.address) && (a.length == b.length)

abbrev pub is_same_origin : Origin → Origin → Bool
is_same_origin a b = is_same_prefix a.prefix b.prefix && (a.max == b.max) && (a.asn == b.asn)

-- The key and the resources that are to be certified.
abbrev pub certifies : CertWork → What → Bool
certifies cert (Authority key held) = is_live key cert.subject && is_same_resources held cert.held
certifies cert (Route origin) = false
certifies cert Point = false

-- A certificate of the key, with whatever resources.
abbrev pub is_for : KeyName → What → Bool
is_for key (Authority other held) = is_live other key
is_for key (Route origin) = false
is_for key Point = false

-- The origin that is to be authorized.
abbrev pub authorizes : RoaWork → What → Bool
authorizes roa (Authority key held) = false
authorizes roa (Route origin) = is_same_origin origin roa.origin
authorizes roa Point = false

-- A CRL or a manifest.
abbrev pub is_point : What → Bool
is_point (Authority key held) = false
is_point (Route origin) = false
is_point Point = true

-- ---- one that serves

abbrev pub serves_certificate : ℕ → CertWork → IssuedRow → Bool
serves_certificate moment cert row =
    is_live row.issuer cert.issuer && certifies cert row.what && not (is_due moment row)

abbrev pub serves_roa : ℕ → RoaWork → IssuedRow → Bool
serves_roa moment roa row =
    is_live row.issuer roa.issuer && authorizes roa row.what && not (is_due moment row)

abbrev pub serves_point : ℕ → KeyName → IssuedRow → Bool
serves_point moment key row =
    is_live row.issuer key && is_point row.what && not (is_due moment row)
