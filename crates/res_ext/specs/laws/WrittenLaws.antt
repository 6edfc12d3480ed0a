-- What is written is spelled right.
use Rattle.std.proofs.Common.{◌<◌, ◌^◌, Some, None, List, map, length, refl, lit<}
use Rattle.der.specs.Spelling.{spelled, length_bytes}
use Rattle.res_sets.specs.declared.numbers.Family.TheVariants.{Asn, V4, V6}
use Rattle.res_sets.specs.declared.numbers.Range.{Range}
use Rattle.res_sets.specs.Numbers.{AreCanonical}
use Rattle.res_ext.specs.Formats.{span_of, choice, part, as_content, as_identifiers, ip_content, ip_blocks}
use Rattle.res_ext.specs.laws.SetLaws.{canonical_tested, canonical_good}
use Rattle.res_ext.specs.Extensions.{SpellsIp, SpellsAs}

ip-good : (v4 v6 : List Range) → AreCanonical V4 v4 → AreCanonical V6 v6
    → ip_content.good (Some (map span_of v4, map span_of v6))
unfolding ip_content
ip-good v4 v6 a b = (
  canonical_good V4 (map span_of v4) (canonical_tested V4 v4 a),
  canonical_good V6 (map span_of v6) (canonical_tested V6 v6 b),
)

ip-inherited : ip_content.good None
unfolding ip_content
ip-inherited = tt

ip-short : length (ip_content.spelling None) < 2 ^ 32
unfolding ip_content part choice spelled length_bytes
ip-short = lit< tt

as-good : (asn : List Range) → AreCanonical Asn asn → as_content.good (Some (map span_of asn))
unfolding as_content choice
as-good asn a = canonical_good Asn (map span_of asn) (canonical_tested Asn asn a)

as-inherited : as_content.good None
unfolding as_content choice
as-inherited = tt

as-short : length (as_content.spelling None) < 2 ^ 32
unfolding as_content choice spelled length_bytes
as-short = lit< tt

pub written-ip : (v4 v6 : List Range) → AreCanonical V4 v4 → AreCanonical V6 v6
    → length (ip_content.spelling (Some (map span_of v4, map span_of v6))) < 2 ^ 32
    → SpellsIp (Some (map span_of v4, map span_of v6))
    (ip_blocks.spelling (Some (map span_of v4, map span_of v6)))
written-ip v4 v6 a b short = record { good = ip-good v4 v6 a b; short = short; spelled = refl }

pub inherited-ip : SpellsIp None (ip_blocks.spelling None)
inherited-ip = record { good = ip-inherited; short = ip-short; spelled = refl }

pub written-as : (asn : List Range) → AreCanonical Asn asn
    → length (as_content.spelling (Some (map span_of asn))) < 2 ^ 32
    → SpellsAs (Some (map span_of asn)) (as_identifiers.spelling (Some (map span_of asn)))
written-as asn a short = record { good = as-good asn a; short = short; spelled = refl }

pub inherited-as : SpellsAs None (as_identifiers.spelling None)
inherited-as = record { good = as-inherited; short = as-short; spelled = refl }
