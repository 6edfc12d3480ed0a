-- The order of origins is total, and origins that compare as equal are one.
use Rattle.std.proofs.Common.{◌≡◌, Bool, true, false, refl}
use Rattle.std.specs.Cmp.{IsTotalOrder, then_total, on_total, nat_cmp_total, bool_cmp_total}
use Rattle.std.specs.declared.cmp.Ordering.{Ordering}
use Rattle.std.specs.declared.cmp.Ordering.TheVariants.{Less, Equal, Greater}
use Rattle.std.specs.Ordering.{nat_cmp, bool_cmp, ordering_then}
use Rattle.std.proofs.lemmas.Map.Lookups.{CmpEqualImpliesEq, exact_unsigned}
use Rattle.origins.specs.declared.Prefix.{Prefix}
use Rattle.origins.specs.Order.{prefix_cmp, origin_cmp}
use Rattle.origins.specs.laws.Same.{same_prefix, same_origin}

pub origin_total : IsTotalOrder origin_cmp
unfolding origin_cmp
origin_total =
    then_total (on_total (λ o. o.prefix) (then_total (on_total (λ p. p.v6) bool_cmp_total)
    (then_total (on_total (λ p. p.address) nat_cmp_total) (on_total (λ p. p.length) nat_cmp_total))))
    (then_total (on_total (λ o. o.max) nat_cmp_total) (on_total (λ o. o.asn) nat_cmp_total))

both_equal : (a b : Ordering) → ordering_then a b ≡ Equal → (a ≡ Equal) × (b ≡ Equal)
both_equal Less b e = absurd (cc)
both_equal Equal b e = (refl, e)
both_equal Greater b e = absurd (cc)

exact_bool : (x y : Bool) → bool_cmp x y ≡ Equal → x ≡ y
exact_bool true true e = refl
exact_bool true false e = absurd (cc)
exact_bool false true e = absurd (cc)
exact_bool false false e = refl

exact_prefix : (p q : Prefix) → prefix_cmp p q ≡ Equal → p ≡ q
exact_prefix p q e =
    let lower = ordering_then (nat_cmp p.address q.address) (nat_cmp p.length q.length) in
    let first = both_equal (bool_cmp p.v6 q.v6) lower e in
    let rest = both_equal (nat_cmp p.address q.address) (nat_cmp p.length q.length) first.1 in
    same_prefix p q (exact_bool p.v6 q.v6 first.0)
    (exact_unsigned p.address q.address rest.0) (exact_unsigned p.length q.length rest.1)

pub exact_origin : CmpEqualImpliesEq origin_cmp
unfolding origin_cmp
exact_origin a b e =
    let lower = ordering_then (nat_cmp a.max b.max) (nat_cmp a.asn b.asn) in
    let first = both_equal (prefix_cmp a.prefix b.prefix) lower e in
    let rest = both_equal (nat_cmp a.max b.max) (nat_cmp a.asn b.asn) first.1 in
    same_origin a b (exact_prefix a.prefix b.prefix first.0)
    (exact_unsigned a.max b.max rest.0) (exact_unsigned a.asn b.asn rest.1)
